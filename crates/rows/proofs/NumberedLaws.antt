-- From the line that was read to the refusal of a row that begins with its number.
-- Assumes nothing.
use mathlib.Core.Path.{◌≡◌, refl, sym, ap, ◌∙◌}
use mathlib.Core.Bool.{Bool, true, false}
use mathlib.Core.List.{List}
use Prim.Native.Nat.{ℕ, ◌+◌, ◌≤◌}
use native.Mathlib.Omega.{arith}
use lib.Dec.{eqb}
use lib.ListN.{length, get_or}
use borrow.Author.Tests.{eq-eqb, ne_eqb, eqb-true, eqb-false}
use Rattle.std.specs.Prelude.{Option, Some, None, Ok, Err}
use Rattle.checks.specs.Checks.{first_failed}
use Rattle.checks.proofs.PassedLaws.{all_passed}
use Rattle.faults.specs.declared.fault.Fault.{Fault}
use Rattle.text.specs.Line.{field_limit, numbers_of}
use Rattle.faults.specs.Fault.{shape_of}
use Rattle.faults.specs.Reader.{placed, line_answer}
use Rattle.faults.proofs.LineLaws.{line_fault, line_faultless, line_placed, line_number}
use Rattle.rows.specs.declared.refusal.Refusal.{Refusal}
use Rattle.rows.specs.Refusals.{wrong_number}
use Rattle.rows.specs.Refusal.{misshapen, without_place, accepted, line_refusal}
use Rattle.rows.specs.Numbered.{numbered_checks, numbered_refusal, numbered_answer}
use Rattle.rows.proofs.AnswerNumbers.{flaw_refused, no_refusal, answer_refused, answer_err, answer_ok}

-- a line that is not refused has the right shape, and numbers that are not refused
pub line_passed : (fields : ℕ) (x : Option Fault) (s : List ℕ) (n : ℕ) → (line_refusal fields x s n).number ≡ 0 → (x ≡ None) × (n ≡ 0)
line_passed fields None s n e = (refl, e)
line_passed fields (Some f) s n e = absurd (flaw_refused f.flaw e)

module _ (ws : List ℕ) (rest : List ℕ → ℕ) (s : List ℕ) (last : ℕ) where
  abbrev numbers_refusal : ℕ
  numbers_refusal = first_failed (numbered_checks (numbers_of s) last) (rest (numbers_of s))

  numbered_by : (x : Option Fault) → shape_of ws s ≡ x → numbered_refusal ws rest s last ≡ line_refusal (length ws) x s numbers_refusal
  unfolding numbered_refusal
  numbered_by x e = ap (λ (y : Option Fault). line_refusal (length ws) y s numbers_refusal) e

  pub numbered_misshapen : (f : Fault) → shape_of ws s ≡ Some f → numbered_refusal ws rest s last ≡ misshapen (length ws) s f
  numbered_misshapen f e = numbered_by (Some f) e

  pub numbered_other : shape_of ws s ≡ None → (get_or (numbers_of s) 0 0 ≡ last + 1 → ⊥) → numbered_refusal ws rest s last ≡ without_place wrong_number
  numbered_other e n = numbered_by None e ∙ rw (ne_eqb (get_or (numbers_of s) 0 0) (last + 1) n)

  pub numbered_rest : shape_of ws s ≡ None → get_or (numbers_of s) 0 0 ≡ last + 1 → numbered_refusal ws rest s last ≡ without_place (rest (numbers_of s))
  numbered_rest e n = numbered_by None e ∙ rw (eq-eqb (get_or (numbers_of s) 0 0) (last + 1) n)

  pub numbered_none : (numbered_refusal ws rest s last).number ≡ 0 → numbered_refusal ws rest s last ≡ accepted
  unfolding numbered_refusal
  numbered_none e = no_refusal (length ws) (shape_of ws s) s numbers_refusal e

  -- what is not refused is of right shape, is the next, and has numbers that are not refused
  pub record NumberedPassed : Type 0 where
    pub shape : shape_of ws s ≡ None
    pub next : get_or (numbers_of s) 0 0 ≡ last + 1
    pub others : rest (numbers_of s) ≡ 0

  pub numbered_passed : (numbered_refusal ws rest s last).number ≡ 0 → NumberedPassed
  unfolding numbered_refusal
  numbered_passed none =
      let (shape, numbers) = line_passed (length ws) (shape_of ws s) s numbers_refusal none in
      let ((next, end), others) = all_passed (numbered_checks (numbers_of s) last) (rest (numbers_of s)) refl numbers in
      record { shape = shape; next = eqb-true (get_or (numbers_of s) 0 0) (last + 1) next; others = others }

-- ---- what the reader of numbered rows answers, from the line

abbrev pub no_others : List ℕ → ℕ
no_others ns = 0

module _ (ws s : List ℕ) (last : ℕ) where
  abbrev refusal : Refusal
  refusal = numbered_refusal ws no_others s last

  pub read_wrong : (f : Fault) → Err f ≡ line_answer ws s → Err (misshapen (length ws) s f) ≡ numbered_answer ws s last
  unfolding numbered_answer
  read_wrong f e =
      answer_refused refusal (misshapen (length ws) s f) (placed (numbers_of s)) (numbered_misshapen ws no_others s last f (line_fault ws s f e)) (flaw_refused f.flaw)

  module _ (some : 1 ≤ length ws) (few : length ws ≤ field_limit) (ns : List ℕ) (e : Ok ns ≡ line_answer ws s) where
    first : get_or ns 0 0 ≡ get_or (numbers_of s) 0 0
    first = (line_number ws s some ns e 0 few some).0

    pub read_other : (get_or ns 0 0 ≡ last + 1 → ⊥) → Err (without_place wrong_number) ≡ numbered_answer ws s last
    unfolding numbered_answer
    read_other n =
        answer_refused refusal (without_place wrong_number) (placed (numbers_of s)) (numbered_other ws no_others s last (line_faultless ws s some ns e) (λ z. n (first ∙ z))) (λ k. omega arith)

    pub read_next : get_or ns 0 0 ≡ last + 1 → Ok ns ≡ numbered_answer ws s last
    unfolding numbered_answer
    read_next n = rw (numbered_rest ws no_others s last (line_faultless ws s some ns e) (sym first ∙ n)) (ap Ok (line_placed ws s some ns e))

-- ---- what it tells of a row whose other numbers may be refused too

module _ (ws : List ℕ) (rest : List ℕ → ℕ) (s : List ℕ) (last : ℕ) where
  module _ (x : Refusal) (some : x.number ≡ 0 → ⊥) (same : numbered_refusal ws no_others s last ≡ x) where
    by_next : shape_of ws s ≡ None → (t : Bool) → eqb (get_or (numbers_of s) 0 0) (last + 1) ≡ t → numbered_refusal ws rest s last ≡ x
    by_next q true t =
        absurd (some (ap (λ (y : Refusal). y.number) (sym same ∙ numbered_rest ws no_others s last q (eqb-true (get_or (numbers_of s) 0 0) (last + 1) t))))
    by_next q false t =
        let other = eqb-false (get_or (numbers_of s) 0 0) (last + 1) t in
        numbered_other ws rest s last q other ∙ sym (numbered_other ws no_others s last q other) ∙ same

    by_shape : (y : Option Fault) → shape_of ws s ≡ y → numbered_refusal ws rest s last ≡ x
    by_shape (Some f) q = numbered_misshapen ws rest s last f q ∙ sym (numbered_misshapen ws no_others s last f q) ∙ same
    by_shape None q = by_next q (eqb (get_or (numbers_of s) 0 0) (last + 1)) refl

  -- a refusal by shape or by number is the row's
  pub numbered_refused : (x : Refusal) → Err x ≡ numbered_answer ws s last → (numbered_refusal ws rest s last ≡ x) × (x.number ≡ 0 → ⊥)
  unfolding numbered_answer
  numbered_refused x e =
      let (same, some) = answer_err (numbered_refusal ws no_others s last) x (placed (numbers_of s)) e in
      (by_shape x some same (shape_of ws s) refl, some)

  -- the numbers of the row, in their places
  pub record NumberedRead (ns : List ℕ) : Type 0 where
    pub line : Ok ns ≡ line_answer ws s
    pub told : numbered_refusal ws rest s last ≡ without_place (rest (numbers_of s))

  pub numbered_read : (ns : List ℕ) → Ok ns ≡ numbered_answer ws s last → NumberedRead ns
  unfolding numbered_answer
  numbered_read ns e =
      let (none, same) = answer_ok (numbered_refusal ws no_others s last) (placed (numbers_of s)) ns e in
      let passed = numbered_passed ws no_others s last none in
      record { line = rw (same, passed.shape); told = numbered_rest ws rest s last passed.shape passed.next }
