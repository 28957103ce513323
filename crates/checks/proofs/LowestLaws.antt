-- The first check that fails is the one of the least number, in a list of rising numbers.
-- Assumes nothing.
use Prim.Native.Nat.{ℕ, ◌≤◌, ◌<◌}
use native.Mathlib.Omega.{arith}
use mathlib.Core.Bool.{Bool, true, false, cond, ◌&&◌, false≢true}
use mathlib.Core.List.{List, [], ◌∷◌}
use mathlib.Core.Logic.{◌⊎◌, inl, inr}
use mathlib.Core.Path.{◌≡◌, refl, sym}
use borrow.Author.Tests.{ltb-true}
use lib.Dec.{ltb}
use Rattle.checks.specs.Checks.{Check, lowest}
use Rattle.checks.proofs.Tests.{both_true}

-- the numbers rise, from above `last` on
abbrev pub rising : ℕ → List Check → Bool
rising last [] = true
rising last (c ∷ checks) = ltb last c.number && rising c.number checks

-- some check of the list is not passed, and has this number
abbrev pub Fails : ℕ → List Check → Type 0
Fails n [] = ⊥
Fails n (c ∷ checks) = ((c.passes ≡ false) × (c.number ≡ n)) ⊎ Fails n checks

-- one check more in front: `above` says that its number is, `rest` what holds of the others
least_of : (last n k low : ℕ) (passes : Bool) (Others : Type 0) → last < n → (Others → (n < low) × (low ≤ k)) → ((passes ≡ false) × (n ≡ k)) ⊎ Others → (last < cond passes low n) × (cond passes low n ≤ k)
least_of last n k low true Others above rest (inl h) = absurd (false≢true (sym h.0))
least_of last n k low true Others above rest (inr f) = (omega (arith, above, (rest f).0), (rest f).1)
least_of last n k low false Others above rest (inl h) = (above, omega (arith, h.1))
least_of last n k low false Others above rest (inr f) = (above, omega (arith, (rest f).0, (rest f).1))

first_least : (last : ℕ) (checks : List Check) → rising last checks ≡ true → (k : ℕ) → Fails k checks → (last < lowest checks) × (lowest checks ≤ k)
first_least last [] rises k f = absurd f
first_least last (c ∷ checks) rises k f =
    let t = both_true (ltb last c.number) (rising c.number checks) rises in
    least_of last c.number k (lowest checks) c.passes (Fails k checks) (ltb-true last c.number t.0)
    (λ h. first_least c.number checks t.1 k h)
    f

fails_of : (passes : Bool) (n low : ℕ) (Others : ℕ → Type 0) → ((low ≡ 0 → ⊥) → Others low) → (cond passes low n ≡ 0 → ⊥) → ((passes ≡ false) × (n ≡ cond passes low n)) ⊎ Others (cond passes low n)
fails_of true n low Others rest h = inr (rest h)
fails_of false n low Others rest h = inl (refl, refl)

first_fails : (checks : List Check) → (lowest checks ≡ 0 → ⊥) → Fails (lowest checks) checks
first_fails [] h = absurd (h refl)
first_fails (c ∷ checks) h =
    fails_of c.passes c.number (lowest checks) (λ n. Fails n checks) (λ g. first_fails checks g) h

-- 0 exactly where no check fails; else the number of a check that fails, and the least of those
pub record IsLowest (n : ℕ) (checks : List Check) : Type 0 where
  pub none : n ≡ 0 → (k : ℕ) → Fails k checks → ⊥
  pub given : (n ≡ 0 → ⊥) → Fails n checks
  pub least : (k : ℕ) → Fails k checks → n ≤ k

pub lowest_is_least : (checks : List Check) → rising 0 checks ≡ true → IsLowest (lowest checks) checks
lowest_is_least checks rises =
    record {
      none = λ e k f. omega (arith, e, (first_least 0 checks rises k f).0);
      given = first_fails checks;
      least = λ k f. (first_least 0 checks rises k f).1;
    }
