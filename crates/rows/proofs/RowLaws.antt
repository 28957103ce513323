-- From the line that was read to the row's answer; and what an answer tells of its row.
-- Assumes nothing.
use mathlib.Core.Path.{◌≡◌, refl, sym, ap, ◌∙◌}
use mathlib.Core.Bool.{Bool, true, false, cond, ◌&&◌}
use mathlib.Core.List.{List, [], ◌∷◌}
use Prim.Native.Nat.{ℕ, ◌+◌, ◌^◌, ◌≤◌, ◌<◌}
use native.Mathlib.Omega.{arith}
use lib.Dec.{leb, eqb}
use lib.ListN.{length, get_or}
use borrow.Author.Tests.{le-leb, lt-leb, leb-true}
use Rattle.std.specs.Prelude.{Some, Result, Ok, Err}
use Rattle.faults.specs.declared.fault.Fault.{Fault}
use Rattle.rows.specs.declared.row.Row.{Row}
use Rattle.text.specs.Line.{numbers_of, fits_in, right_shape}
use Rattle.faults.specs.Reader.{line_answer}
use Rattle.faults.specs.Fault.{shape_of, is_right}
use Rattle.faults.specs.device.Calls.{Readable}
use Rattle.faults.proofs.LineLaws.{line_fault, line_faultless, line_right, line_number}
use Rattle.text.specs.Decimals.{decimals, line_of}
use Rattle.relay.specs.Refusals.{wrong_block}
use Rattle.rows.specs.Refusals.{wrong_number}
use Rattle.rows.specs.declared.refusal.Refusal.{Refusal}
use Rattle.rows.specs.Refusal.{misshapen, without_place, accepted}
use Rattle.rows.specs.Numbered.{numbered_answer}
use Rattle.rows.specs.Row.{last_row, largest_current, row_of, block_refusal, row_refusal, row_answer, row_numbers}
use Rattle.rows.specs.Widths.{row_widths}
use Rattle.checks.proofs.Cases.{by_cond}
use Rattle.rows.proofs.AnswerNumbers.{flaw_refused, answer_numbers, answer_refused}
use Rattle.rows.proofs.NumberedLaws.{NumberedRead, numbered_misshapen, numbered_other, numbered_rest, numbered_none, numbered_passed, numbered_refused, numbered_read}
use Rattle.faults.proofs.RightLaws.{faultless_right, right_faultless, faultless_shape}
use Rattle.text.proofs.ShapeLaws.{shape_least, number_below, fits_none, fits_decimal}
use Rattle.text.proofs.DecimalsLaws.{line_shaped, line_numbers}

-- ---- the answer, by the tests

pub row_readable : Readable row_widths
row_readable = record { some = omega arith; few = omega arith; each = refl }

-- whether a line is a row of number 1, by what was read
module _ (s : List ℕ) where
  abbrev is_first : Bool
  is_first = right_shape row_widths s && eqb (get_or (numbers_of s) 0 0) 1

  pub first_read : (ns : List ℕ) → Ok ns ≡ line_answer row_widths s → eqb (get_or ns 0 0) 1 ≡ is_first
  first_read ns e = rw (line_right row_widths s (omega arith) ns e, (line_number row_widths s (omega arith) ns e 0 (omega arith) (omega arith)).0)

  pub first_unread : (f : Fault) → Err f ≡ line_answer row_widths s → false ≡ is_first
  first_unread f e = let wrong = sym (faultless_right row_widths s (omega arith)) ∙ ap is_right (line_fault row_widths s f e) in rw wrong

-- both clauses of the reader's contract
pub row_told : (r : Result Row Refusal) (s : List ℕ) (last : ℕ) → r ≡ row_answer s last → (r ≡ row_answer s last) × (row_numbers r ≡ row_refusal s last)
unfolding row_answer
row_told r s last e = (e, ap row_numbers e ∙ answer_numbers (row_refusal s last) (row_of (numbers_of s)) (numbered_none row_widths block_refusal s last))

module _ (s : List ℕ) (last : ℕ) where
  row_refused : (x : Refusal) → row_refusal s last ≡ x → (x.number ≡ 0 → ⊥) → Err x ≡ row_answer s last
  unfolding row_answer
  row_refused x e k = answer_refused (row_refusal s last) x (row_of (numbers_of s)) e k

  pub row_unread : (x : Refusal) → Err x ≡ numbered_answer row_widths s last → Err x ≡ row_answer s last
  row_unread x e =
      let (same, some) = numbered_refused row_widths block_refusal s last x e in
      row_refused x same some

  pub row_shape : (f : Fault) → Err f ≡ line_answer row_widths s → Err (misshapen (length row_widths) s f) ≡ row_answer s last
  row_shape f e =
      row_refused (misshapen (length row_widths) s f) (numbered_misshapen row_widths block_refusal s last f (line_fault row_widths s f e)) (flaw_refused f.flaw)

  pub row_number : (ns : List ℕ) → Ok ns ≡ line_answer row_widths s → (get_or ns 0 0 ≡ last + 1 → ⊥) → Err (without_place wrong_number) ≡ row_answer s last
  row_number ns e n =
      row_refused (without_place wrong_number)
      (numbered_other row_widths block_refusal s last (line_faultless row_widths s (omega arith) ns e)
      (λ k. n ((line_number row_widths s (omega arith) ns e 0 (omega arith) (omega arith)).0 ∙ k)))
      (λ k. omega arith)

  module _ (ns : List ℕ) (e : Ok ns ≡ numbered_answer row_widths s last) where
    read : NumberedRead row_widths block_refusal s last ns
    read = numbered_read row_widths block_refusal s last ns e

    row_at : (k : ℕ) → k < length row_widths → (get_or ns k 0 ≡ get_or (numbers_of s) k 0) × (get_or (numbers_of s) k 0 < 10 ^ get_or row_widths k 0)
    row_at k h = line_number row_widths s (omega arith) ns read.line k (omega arith) h

    pub row_fits_law : (k : ℕ) → k < length row_widths → get_or ns k 0 < 10 ^ get_or row_widths k 0
    row_fits_law k h = rw (row_at k h).0 (row_at k h).1

    same : row_of ns ≡ row_of (numbers_of s)
    same = rw ((row_at 0 (omega arith)).0, (row_at 2 (omega arith)).0, (row_at 3 (omega arith)).0, (row_at 4 (omega arith)).0, (row_at 5 (omega arith)).0)

    block_told : row_refusal s last ≡ without_place (cond (leb (get_or ns 5 0) 1) 0 wrong_block)
    block_told = rw (row_at 5 (omega arith)).0 read.told

    pub row_block : 1 < get_or ns 5 0 → Err (without_place wrong_block) ≡ row_answer s last
    row_block b = row_refused (without_place wrong_block) (block_told ∙ rw (lt-leb (get_or ns 5 0) 1 b)) (λ k. omega arith)

    pub row_accepted : get_or ns 5 0 ≤ 1 → Ok (row_of ns) ≡ row_answer s last
    unfolding row_answer
    row_accepted b =
        let none : row_refusal s last ≡ accepted = block_told ∙ rw (le-leb (get_or ns 5 0) 1 b) in
        rw (none, same)

-- ---- a line of another shape, and an accepted row

pub row_misshapen : (s : List ℕ) (last : ℕ) (f : Fault) → shape_of row_widths s ≡ Some f → row_answer s last ≡ Err (misshapen (length row_widths) s f)
row_misshapen s last f h = sym (row_refused s last (misshapen (length row_widths) s f) (numbered_misshapen row_widths block_refusal s last f h) (flaw_refused f.flaw))

-- a digit in each of six fields, five commas, CR LF
abbrev pub shortest_row : ℕ
shortest_row = 13

-- it has at least so many bytes; its number is one of six digits, its currents of seven, and its block is 0 or 1
pub record AcceptedRow (s : List ℕ) (last : ℕ) (x : Row) : Type 0 where
  pub long : shortest_row ≤ length s
  pub number : last + 1 ≤ last_row
  pub first : x.sample.l1 ≤ largest_current
  pub second : x.sample.l2 ≤ largest_current
  pub third : x.sample.l3 ≤ largest_current
  pub block : x.sample.block ≤ 1

free_block : (block : ℕ) → cond (leb block 1) 0 wrong_block ≡ 0 → block ≤ 1
free_block block = by_cond (λ n. n ≡ 0 → block ≤ 1) (leb block 1) 0 wrong_block (λ t e. leb-true block 1 t) (λ t e. absurd (omega arith))

pub accepted_row : (s : List ℕ) (last : ℕ) (x : Row) → row_answer s last ≡ Ok x → AcceptedRow s last x
unfolding row_answer
accepted_row s last x e =
    let none : (row_refusal s last).number ≡ 0 = sym (ap (λ (y : Refusal). y.number) (row_told (Ok x) s last (sym e)).1) in
    let passed = numbered_passed row_widths block_refusal s last none in
    let shape = faultless_shape row_widths s (omega arith) passed.shape in
    let same : row_of (numbers_of s) ≡ x = cc in
    let below = number_below row_widths s (omega arith) shape in
    record {
      long = omega (arith, shape_least row_widths s (omega arith) shape);
      number = omega (arith, passed.next, below 0);
      first = rw (← same) (omega (arith, below 2));
      second = rw (← same) (omega (arith, below 3));
      third = rw (← same) (omega (arith, below 4));
      block = rw (← same) (free_block (get_or (numbers_of s) 5 0) passed.others);
    }

-- after row 999,999 no row is right
pub no_row_after_last : (s : List ℕ) (x : Row) → row_answer s last_row ≡ Ok x → ⊥
no_row_after_last s x e = let k = (accepted_row s last_row x e).number in omega arith

-- ---- a row that is written in decimals is read back

module _ (last stamp a b c block : ℕ) (n : last + 1 ≤ last_row) (t : stamp ≤ 9999999999) (ka : a ≤ largest_current) (kb : b ≤ largest_current) (kc : c ≤ largest_current) (kd : block ≤ 1) where
  abbrev numbers : List ℕ
  numbers = (last + 1) ∷ stamp ∷ a ∷ b ∷ c ∷ block ∷ []

  fields_fit : fits_in row_widths (decimals numbers) ≡ true
  fields_fit =
      fits_decimal 5 (last + 1) _ _ (omega arith) (omega arith)
      (fits_decimal 9 stamp _ _ (omega arith) (omega arith)
      (fits_decimal 6 a _ _ (omega arith) (omega arith)
      (fits_decimal 6 b _ _ (omega arith) (omega arith)
      (fits_decimal 6 c _ _ (omega arith) (omega arith)
      (fits_decimal 0 block _ _ (omega arith) (omega arith) fits_none)))))

  pub row_back : row_answer (line_of numbers) last ≡ Ok (record { number = last + 1; sample = record { l1 = a; l2 = b; l3 = c; block = block } })
  unfolding row_answer
  row_back =
      let back = line_numbers row_widths numbers (omega arith) fields_fit in
      let told = numbered_rest row_widths block_refusal (line_of numbers) last (right_faultless row_widths (line_of numbers) (omega arith) (line_shaped row_widths numbers (omega arith) fields_fit)) (rw back) in
      rw (told, back, le-leb block 1 kd)
