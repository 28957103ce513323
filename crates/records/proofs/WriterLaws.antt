-- The writer of the record: its refusal, its answer, and rows written one after the other.
-- Assumes nothing.
use mathlib.Core.Path.{◌≡◌, refl, sym, ◌∙◌}
use mathlib.Core.Bool.{true, false, cond, ◌&&◌}
use mathlib.Core.List.{List, [], ◌∷◌, ◌++◌}
use Prim.Native.Nat.{ℕ, ◌+◌, ◌-◌, ◌≤◌, ◌<◌}
use native.Mathlib.Omega.{arith}
use lib.Dec.{leb, eqb}
use lib.ListN.{length, length-append}
use lib.Seq.{sets}
use borrow.Author.Tests.{eq-eqb, ne_eqb, le-leb, lt-leb, leb-true, eqb-true}
use Rattle.checks.specs.Range.{in_range}
use Rattle.checks.proofs.Cases.{by_cond}
use Rattle.checks.proofs.Tests.{both_true, in_range_law, is_in_range}
use Rattle.rows.specs.Row.{last_row, largest_current}
use Rattle.text.specs.Lines.{joined}
use Rattle.text.proofs.StoreLaws.{sets_append}
use Rattle.text.proofs.CutLaws.{joined_none, joined_more}
use Rattle.records.specs.declared.record_row.RecordRow.{RecordRow}
use Rattle.records.specs.Refusals.{no_room, does_not_fit}
use Rattle.records.specs.RecordRow.{row_fits, record_text}
use Rattle.records.specs.Writer.{write_refusal, free_from, WriteAnswer, written_at, refused_at, write_answer}

-- ---- numbers that fit

pub record Fits (x : RecordRow) : Type 0 where
  pub some : 1 ≤ x.number
  pub most : x.number ≤ last_row
  pub first : x.l1 ≤ largest_current
  pub second : x.l2 ≤ largest_current
  pub third : x.l3 ≤ largest_current

pub fits : (x : RecordRow) → row_fits x ≡ true → Fits x
fits x e =
    let low2 = leb x.l2 largest_current in
    let low3 = leb x.l3 largest_current in
    let (number, currents) = both_true (in_range 1 last_row x.number) (leb x.l1 largest_current && (low2 && low3)) e in
    let (first, others) = both_true (leb x.l1 largest_current) (low2 && low3) currents in
    let (second, third) = both_true low2 low3 others in
    let (some, most) = in_range_law 1 last_row x.number number in
    record {
      some = some;
      most = most;
      first = leb-true x.l1 largest_current first;
      second = leb-true x.l2 largest_current second;
      third = leb-true x.l3 largest_current third;
    }

pub fits_row : (x : RecordRow) → Fits x → row_fits x ≡ true
fits_row x f =
    rw (
      is_in_range 1 last_row x.number f.some f.most,
      le-leb x.l1 largest_current f.first,
      le-leb x.l2 largest_current f.second,
      le-leb x.l3 largest_current f.third,
    )

-- a row has some bytes
pub text_some : (x : RecordRow) → 1 ≤ length (record_text x)
unfolding record_text
text_some x = rw length-append (omega arith)

-- ---- the refusal, by its two tests

module _ (x : RecordRow) (free : ℕ) where
  pub refused_unfit : row_fits x ≡ false → write_refusal x free ≡ does_not_fit
  unfolding write_refusal
  refused_unfit e = rw e

  pub refused_cramped : row_fits x ≡ true → free < length (record_text x) → write_refusal x free ≡ no_room
  unfolding write_refusal
  refused_cramped e h = rw (e, lt-leb (length (record_text x)) free h)

  pub refused_not : row_fits x ≡ true → length (record_text x) ≤ free → write_refusal x free ≡ 0
  unfolding write_refusal
  refused_not e h = rw (e, le-leb (length (record_text x)) free h)

  pub accepted_fits : write_refusal x free ≡ 0 → row_fits x ≡ true
  unfolding write_refusal
  accepted_fits =
      by_cond (λ (n : ℕ). n ≡ 0 → row_fits x ≡ true) (row_fits x) _ does_not_fit (λ t e. t) (λ t e. absurd (omega arith))

  pub accepted_room : write_refusal x free ≡ 0 → length (record_text x) ≤ free
  unfolding write_refusal
  accepted_room e =
      let inner : cond (leb (length (record_text x)) free) 0 no_room ≡ 0 = rw (accepted_fits e) at e in
      by_cond (λ (n : ℕ). n ≡ 0 → length (record_text x) ≤ free) (leb (length (record_text x)) free) 0 no_room (λ t k. leb-true (length (record_text x)) free t) (λ t k. absurd (omega arith)) inner

  -- a place that leaves room is not past the end
  pub accepted_place : (out at : ℕ) → free ≡ out - at → write_refusal x free ≡ 0 → at + length (record_text x) ≤ out
  accepted_place out at f e = omega (arith, f, accepted_room e, text_some x)

-- ---- the answer

module _ (out : List ℕ) (at : ℕ) (x : RecordRow) where
  pub write_accepted : write_refusal x (free_from (length out) at) ≡ 0 → write_answer out at x ≡ written_at out at (record_text x)
  unfolding write_answer
  write_accepted e = rw (eq-eqb (write_refusal x (free_from (length out) at)) 0 e)

  -- from what the writer of the row said of the free part
  pub write_done : write_refusal x (free_from (length out) at) ≡ 0 → (long : ℕ) (after : List ℕ) → long ≡ 0 + length (record_text x) → after ≡ sets out at (record_text x)
      → record { answer = record { refusal = 0; place = at + long }; buffer = after } ≡ write_answer out at x
  write_done e long after n s =
      let place : at + long ≡ at + length (record_text x) = omega arith in
      rw (place, s) (sym (write_accepted e))

  pub write_refused : (write_refusal x (free_from (length out) at) ≡ 0 → ⊥) → write_answer out at x ≡ refused_at (write_refusal x (free_from (length out) at)) out at
  unfolding write_answer
  write_refused k = rw (ne_eqb (write_refusal x (free_from (length out) at)) 0 k)

  -- the number that the answer has
  pub write_number : (write_answer out at x).answer.refusal ≡ write_refusal x (free_from (length out) at)
  unfolding write_answer
  write_number =
      by_cond (λ (a : WriteAnswer). a.answer.refusal ≡ write_refusal x (free_from (length out) at)) (eqb (write_refusal x (free_from (length out) at)) 0)
      (written_at out at (record_text x)) (refused_at (write_refusal x (free_from (length out) at)) out at)
      (λ t. sym (eqb-true (write_refusal x (free_from (length out) at)) 0 t)) (λ t. refl)

-- ---- rows one after the other

-- so many writes, each at the place that the one before answered
unfoldable pub write_all : List ℕ → ℕ → List RecordRow → WriteAnswer
write_all out at [] = written_at out at []
write_all out at (x ∷ xs) = write_all (write_answer out at x).buffer (write_answer out at x).answer.place xs

-- each of them is accepted
abbrev pub AllAccepted : List ℕ → ℕ → List RecordRow → Type 0
AllAccepted out at [] = Unit {0}
AllAccepted out at (x ∷ xs) =
    ((write_answer out at x).answer.refusal ≡ 0) × AllAccepted (write_answer out at x).buffer (write_answer out at x).answer.place xs

unfoldable pub texts : List RecordRow → List (List ℕ)
texts [] = []
texts (x ∷ xs) = record_text x ∷ texts xs

written_twice : (out : List ℕ) (at : ℕ) (xs ys : List ℕ) → written_at (sets out at xs) (at + length xs) ys ≡ written_at out at (xs ++ ys)
written_twice out at xs ys =
    let place : at + length xs + length ys ≡ at + length (xs ++ ys) = rw length-append (omega arith) in
    rw (place, sets_append out at xs ys)

-- EACH ROW GOES STRAIGHT AFTER THE LAST: accepted rows stand joined at the first place
pub rows_join : (out : List ℕ) (at : ℕ) (xs : List RecordRow) → AllAccepted out at xs → write_all out at xs ≡ written_at out at (joined (texts xs))
unfolding write_all texts
rows_join out at [] h = rw joined_none
rows_join out at (x ∷ xs) (e, h) =
    let w : write_answer out at x ≡ written_at out at (record_text x) = write_accepted out at x (sym (write_number out at x) ∙ e) in
    rw (joined_more (record_text x) (texts xs), ← written_twice out at (record_text x) (joined (texts xs)), w)
    (rows_join (sets out at (record_text x)) (at + length (record_text x)) xs (rw w at h))
