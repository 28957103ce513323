-- Checks and the refusal number that they give (01, 'Refusal numbers').
use Rattle.std.specs.Prelude.{ℕ, Bool, cond, List, [], ◌∷◌}

-- a test that a call's arguments must pass, and the number that is given where they do not
pub record Check : Type 0 where
  pub passes : Bool
  pub number : ℕ

abbrev pub check : Bool → ℕ → Check
check passes number = record { passes = passes; number = number }

-- the number of the first check that is not passed, else `rest`
abbrev pub first_failed : List Check → ℕ → ℕ
first_failed [] rest = rest
first_failed (c ∷ checks) rest = cond c.passes (first_failed checks rest) c.number

-- "The lowest number that applies to the call's arguments is given .. 0 means accepted". Where the checks are listed in the
-- order of their numbers, the first that fails is the lowest: `lowest_is_least` of `proofs/`.
abbrev pub lowest : List Check → ℕ
lowest checks = first_failed checks 0
