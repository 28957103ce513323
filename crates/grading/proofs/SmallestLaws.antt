-- The smallest of what numbers give, and the lowest that has it: what it means, one number more, and that the definition gives it.
-- Assumes nothing.
use Prim.Native.Nat.{ℕ, zero, suc, ◌+◌, ◌≤◌, ◌<◌}
use native.Mathlib.Nat.{eq-or-lt_of_le, le_antisymm, le_of_suc-le-suc, lt_of_not-le}
use native.Mathlib.Omega.{arith}
use mathlib.Core.Bool.{Bool, true, false, cond, ◌&&◌, false≢true}
use mathlib.Core.List.{map}
use mathlib.Core.Logic.{⊎_elim}
use mathlib.Core.Path.{◌≡◌, refl, sym, ◌∙◌, ap, subst}
use lib.IntN.{ℤ}
use lib.ListN.{get_or}
use lib.Signed.{lt_z, le_z}
use Rattle.checks.proofs.Tests.{both_true}
use Rattle.grading.specs.Margins.{up_from, those, minimum, same_z}
use Rattle.grading.proofs.ListLaws.{first_of_those}
use Rattle.grading.proofs.SignedLaws.{le_itself, not_less, not_le, not_both_ways, less_then_le, less_is_le, le_then_le, both_ways}

-- z is the smallest of what d gives from low on and below high, and `at` the lowest number that has it
pub record SmallestOf (d : ℕ → ℤ) (low high : ℕ) (z : ℤ) (at : ℕ) : Type 0 where
  pub from : low ≤ at
  pub to : at < high
  pub has : d at ≡ z
  pub none_smaller : (m : ℕ) → low ≤ m → m < high → le_z z (d m) ≡ true
  pub none_lower : (m : ℕ) → low ≤ m → m < at → lt_z z (d m) ≡ true

-- there is one alone
same_place : (d : ℕ → ℤ) (low high at at' : ℕ) (z z' : ℤ) → SmallestOf d low high z at → SmallestOf d low high z' at' → at ≤ at'
same_place d low high at at' z z' a b =
    omega (
      arith,
      lt_of_not-le {n = suc at'} {m = at}
          (λ h. not_both_ways z (d at') (a.none_lower at' b.from h)
          (rw (b.has, sym a.has) (b.none_smaller at a.from a.to))),
    )

pub smallest_alone : (d : ℕ → ℤ) (low high at at' : ℕ) (z z' : ℤ) → SmallestOf d low high z at → SmallestOf d low high z' at' → (z ≡ z') × (at ≡ at')
smallest_alone d low high at at' z z' a b =
    let one : at ≡ at' = le_antisymm (same_place d low high at at' z z' a b) (same_place d low high at' at z' z b a) in
    (sym a.has ∙ ap d one ∙ b.has, one)

-- ---- one number more

module _ (d : ℕ → ℤ) (low high : ℕ) where
  up_to : (P : ℕ → Type 0) → P high → ((m : ℕ) → low ≤ m → m < high → P m) → (m : ℕ) → low ≤ m → m < suc high → P m
  up_to P last others m a b = ⊎_elim (λ same. subst P (sym same) last) (λ less. others m a less) (eq-or-lt_of_le (le_of_suc-le-suc b))

  pub first_is_smallest : low ≡ high → SmallestOf d low (suc high) (d high) high
  first_is_smallest e =
      record {
        from = omega arith;
        to = omega arith;
        has = refl;
        none_smaller = up_to (λ m. le_z (d high) (d m) ≡ true) (le_itself (d high)) (λ m a b. absurd (omega (arith, a, b, e)));
        none_lower = λ m a b. absurd (omega (arith, a, b, e));
      }

  module _ (z : ℤ) (at : ℕ) (s : SmallestOf d low high z at) where
    pub smaller_found : lt_z (d high) z ≡ true → SmallestOf d low (suc high) (d high) high
    smaller_found q =
        let below : (m : ℕ) → low ≤ m → m < high → lt_z (d high) (d m) ≡ true = λ m a b. less_then_le (d high) z (d m) q (s.none_smaller m a b) in
        record {
          from = omega (arith, s.from, s.to);
          to = omega arith;
          has = refl;
          none_smaller = up_to (λ m. le_z (d high) (d m) ≡ true) (le_itself (d high)) (λ m a b. less_is_le (d high) (d m) (below m a b));
          none_lower = below;
        }

    pub none_found : lt_z (d high) z ≡ false → SmallestOf d low (suc high) z at
    none_found q =
        record {
          from = s.from;
          to = omega (arith, s.to);
          has = s.has;
          none_smaller = up_to (λ m. le_z z (d m) ≡ true) (not_less (d high) z q) s.none_smaller;
          none_lower = s.none_lower;
        }

-- ---- the definition

-- the minimum is no more than any of them, and is one of them
record LeastOf (d : ℕ → ℤ) (low high : ℕ) (z : ℤ) : Type 0 where
  at : ℕ
  from : low ≤ at
  to : at < high
  has : d at ≡ z
  none_smaller : (m : ℕ) → low ≤ m → m < high → le_z z (d m) ≡ true

least_is : (d : ℕ → ℤ) (low n : ℕ) → LeastOf d low (low + suc n) (minimum (map d (up_from low (suc n))))
unfolding up_from minimum
least_is d low zero =
    record {
      at = low;
      from = omega arith;
      to = omega arith;
      has = refl;
      none_smaller = λ m a b. let one : m ≡ low = omega (arith, a, b) in rw one (le_itself (d low));
    }
least_is d low (suc n) = go (minimum (map d (up_from (suc low) (suc n)))) (le_z (d low) (minimum (map d (up_from (suc low) (suc n))))) refl (least_is d (suc low) n)
  where
    go : (others : ℤ) (b : Bool) → le_z (d low) others ≡ b → LeastOf d (suc low) (suc low + suc n) others → LeastOf d low (low + suc (suc n)) (cond b (d low) others)
    go others true q rest =
        record {
          at = low;
          from = omega arith;
          to = omega arith;
          has = refl;
          none_smaller = λ m a b. ⊎_elim (λ same. ap (λ (k : ℕ). le_z (d low) (d k)) (sym same) ∙ le_itself (d low)) (λ later. le_then_le (d low) others (d m) q (rest.none_smaller m later (omega (arith, b)))) (eq-or-lt_of_le a);
        }
    go others false q rest =
        record {
          at = rest.at;
          from = omega (arith, rest.from);
          to = omega (arith, rest.to);
          has = rest.has;
          none_smaller = λ m a b. ⊎_elim (λ same. ap (λ (k : ℕ). le_z others (d k)) (sym same) ∙ less_is_le others (d low) (not_le (d low) others q)) (λ later. rest.none_smaller m later (omega (arith, b))) (eq-or-lt_of_le a);
        }

first_fails : (a b : Bool) → a && b ≡ false → b ≡ true → a ≡ false
first_fails true b e h = absurd (false≢true (sym e ∙ h))
first_fails false b e h = refl

-- what the minimum, and the first number that has it, mean
pub smallest_is : (d : ℕ → ℤ) (low n : ℕ) → 0 < n → (z : ℤ) → z ≡ minimum (map d (up_from low n)) → SmallestOf d low (low + n) z (get_or (those (λ m. same_z (d m) z) (up_from low n)) 0 0)
smallest_is d low zero some z e = absurd (omega arith)
smallest_is d low (suc n) some z e =
    let least = least_is d low n in
    let here : d least.at ≡ z = least.has ∙ sym e in
    let found = first_of_those (λ m. same_z (d m) z) low (suc n) least.at least.from least.to (rw (here, le_itself z)) in
    let same = both_true (le_z (d (get_or (those (λ m. same_z (d m) z) (up_from low (suc n))) 0 0)) z) _ found.passes in
    record {
      from = found.from;
      to = found.to;
      has = both_ways _ z same.0 same.1;
      none_smaller = λ m a b. rw e (least.none_smaller m a b);
      none_lower = λ m a b. not_le (d m) z (first_fails (le_z (d m) z) (le_z z (d m)) (found.before m a b) (rw e (least.none_smaller m a (omega (arith, b, found.to)))));
    }
