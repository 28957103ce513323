-- Checks that refused nothing: each was passed, and what came after them is 0.
-- Assumes nothing.
use Prim.Native.Nat.{ℕ, ◌<◌}
use native.Mathlib.Omega.{arith}
use mathlib.Core.Bool.{Bool, true, false, cond}
use mathlib.Core.List.{List, [], ◌∷◌}
use mathlib.Core.Path.{◌≡◌, refl, sym, ◌∙◌, ap}
use borrow.Author.Tests.{ltb-true}
use lib.Dec.{ltb}
use Rattle.checks.specs.Checks.{Check, first_failed, lowest}
use Rattle.checks.proofs.LowestLaws.{rising}
use Rattle.checks.proofs.Tests.{both_true}

-- every check of the list is passed
abbrev pub AllPass : List Check → Type 0
AllPass [] = Unit {0}
AllPass (c ∷ checks) = (c.passes ≡ true) × AllPass checks

one_passed : (passes : Bool) (rest n : ℕ) → 0 < n → cond passes rest n ≡ 0 → (passes ≡ true) × (rest ≡ 0)
one_passed true rest n some e = (refl, e)
one_passed false rest n some e = absurd (omega (arith, some, e))

passed_from : (last : ℕ) (checks : List Check) (rest : ℕ) → rising last checks ≡ true → first_failed checks rest ≡ 0 → AllPass checks × (rest ≡ 0)
passed_from last [] rest rises e = (tt, e)
passed_from last (c ∷ checks) rest rises e =
    let (above, rise) = both_true (ltb last c.number) (rising c.number checks) rises in
    let (first, others) = one_passed c.passes (first_failed checks rest) c.number (omega (arith, ltb-true last c.number above)) e in
    let (all, after) = passed_from c.number checks rest rise others in
    ((first, all), after)

pub all_passed : (checks : List Check) (rest : ℕ) → rising 0 checks ≡ true → first_failed checks rest ≡ 0 → AllPass checks × (rest ≡ 0)
all_passed checks rest rises e = passed_from 0 checks rest rises e

-- so they refuse nothing where they stand alone
pub front_passed : (checks : List Check) (rest : ℕ) → rising 0 checks ≡ true → first_failed checks rest ≡ 0 → lowest checks ≡ 0
front_passed checks rest rises e = ap (first_failed checks) (sym (all_passed checks rest rises e).1) ∙ e
