-- An answer and its refusal, accepted or refused.
-- Assumes nothing.
use mathlib.Core.Path.{◌≡◌, refl, sym, ap}
use mathlib.Core.Bool.{Bool, true, false, cond}
use mathlib.Core.List.{List}
use Prim.Native.Nat.{ℕ}
use native.Mathlib.Omega.{arith}
use lib.Dec.{eqb}
use borrow.Author.Tests.{eqb-true, eqb-false, ne_eqb}
use Rattle.std.specs.Prelude.{Option, Some, None, Result, Ok, Err}
use Rattle.checks.proofs.Cases.{by_cond}
use Rattle.faults.specs.declared.fault.Flaw.{Flaw}
use Rattle.faults.specs.declared.fault.Flaw.TheVariants.{NoDigit, DigitTooMany, StrayByte, FieldCount, LineEnd}
use Rattle.faults.specs.declared.fault.Fault.{Fault}
use Rattle.rows.specs.declared.refusal.Refusal.{Refusal}
use Rattle.rows.specs.Refusal.{flaw_number, without_place, accepted, line_refusal, answer_by, refused_with}

-- a wrong shape has a number
pub flaw_refused : (flaw : Flaw) → flaw_number flaw ≡ 0 → ⊥
flaw_refused NoDigit e = omega arith
flaw_refused DigitTooMany e = omega arith
flaw_refused StrayByte e = omega arith
flaw_refused FieldCount e = omega arith
flaw_refused LineEnd e = omega arith

-- a refusal with the number 0 is none
pub no_refusal : (fields : ℕ) (x : Option Fault) (s : List ℕ) (n : ℕ) → (line_refusal fields x s n).number ≡ 0 → line_refusal fields x s n ≡ accepted
no_refusal fields None s n e = ap without_place e
no_refusal fields (Some f) s n e = absurd (flaw_refused f.flaw e)

module _ {A : Type 0} where
  -- an answer has the refusal that it is given by
  pub answer_numbers : (x : Refusal) (given : A) → (x.number ≡ 0 → x ≡ accepted) → refused_with (answer_by x given) ≡ x
  answer_numbers x given none =
      by_cond (λ (r : Result A Refusal). refused_with r ≡ x) (eqb x.number 0) (Ok given) (Err x) (λ t. sym (none (eqb-true x.number 0 t))) (λ t. refl)

  -- and is it, where its number is another than 0
  pub answer_refused : (refusal x : Refusal) (given : A) → refusal ≡ x → (x.number ≡ 0 → ⊥) → Err x ≡ answer_by refusal given
  answer_refused refusal x given e k = rw (e, ne_eqb x.number 0 k)

  -- ---- what an answer tells

  pub answer_err : (refusal x : Refusal) (given : A) → Err x ≡ answer_by refusal given → (refusal ≡ x) × (x.number ≡ 0 → ⊥)
  answer_err refusal x given = by_number (eqb refusal.number 0) refl
    where
      by_number : (t : Bool) → eqb refusal.number 0 ≡ t → ◌≡◌ {A = Result A Refusal} (Err x) (cond t (Ok given) (Err refusal)) → (refusal ≡ x) × (x.number ≡ 0 → ⊥)
      by_number true t e = cc
      by_number false t e = let same : refusal ≡ x = cc in (same, λ z. eqb-false refusal.number 0 t (rw same z))

  pub answer_ok : (refusal : Refusal) (given got : A) → Ok got ≡ answer_by refusal given → (refusal.number ≡ 0) × (got ≡ given)
  answer_ok refusal given got = by_number (eqb refusal.number 0) refl
    where
      by_number : (t : Bool) → eqb refusal.number 0 ≡ t → ◌≡◌ {A = Result A Refusal} (Ok got) (cond t (Ok given) (Err refusal)) → (refusal.number ≡ 0) × (got ≡ given)
      by_number true t e = let same : got ≡ given = cc in (eqb-true refusal.number 0 t, same)
      by_number false t e = cc
