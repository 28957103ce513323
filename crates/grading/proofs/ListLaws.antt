-- Numbers one after the other, and those of them that pass a test.
-- Assumes nothing.
use Prim.Native.Nat.{ℕ, zero, suc, ◌+◌, ◌≤◌, ◌<◌}
use native.Mathlib.Nat.{add-zero, eq-or-lt_of_le}
use native.Mathlib.Omega.{arith}
use mathlib.Core.Bool.{Bool, true, false, cond, false≢true}
use mathlib.Core.List.{List, [], ◌∷◌, ◌++◌}
use mathlib.Core.Logic.{⊎_elim}
use mathlib.Core.Path.{◌≡◌, refl, sym, ◌∙◌, ap}
use lib.ListN.{length, get_or}
use Rattle.checks.proofs.Cases.{by_cond}
use Rattle.grading.specs.Margins.{up_from, those}

pub up_next : (low n : ℕ) → up_from low (suc n) ≡ up_from low n ++ ((low + n) ∷ [])
unfolding up_from
up_next low zero = rw (add-zero low)
up_next low (suc n) =
    let last : suc low + n ≡ low + suc n = omega arith in
    ap (λ (xs : List ℕ). low ∷ xs) (up_next (suc low) n) ∙ rw last

pub those_append : (test : ℕ → Bool) (xs ys : List ℕ) → those test (xs ++ ys) ≡ those test xs ++ those test ys
unfolding those
those_append test [] ys = refl
those_append test (x ∷ xs) ys = rw (those_append test xs ys) (go (test x))
  where
    go : (b : Bool) → cond b (x ∷ (those test xs ++ those test ys)) (those test xs ++ those test ys) ≡ cond b (x ∷ those test xs) (those test xs) ++ those test ys
    go true = refl
    go false = refl

pub those_one : (test : ℕ → Bool) (x : ℕ) → those test (x ∷ []) ≡ cond (test x) (x ∷ []) []
unfolding those
those_one test x = refl

pub those_no_more : (test : ℕ → Bool) (xs : List ℕ) → length (those test xs) ≤ length xs
unfolding those
those_no_more test [] = omega arith
those_no_more test (x ∷ xs) =
    let fewer = those_no_more test xs in
    by_cond (λ ys. length ys ≤ suc (length xs)) (test x) (x ∷ those test xs) (those test xs) (λ t. omega (arith, fewer)) (λ t. omega (arith, fewer))

up_length : (low n : ℕ) → length (up_from low n) ≡ n
unfolding up_from
up_length low zero = refl
up_length low (suc n) = ap suc (up_length (suc low) n)

pub those_at_most : (test : ℕ → Bool) (low n : ℕ) → length (those test (up_from low n)) ≤ n
those_at_most test low n = omega (arith, those_no_more test (up_from low n), up_length low n)

-- the first that passes
pub record FirstPassing (test : ℕ → Bool) (low high at : ℕ) : Type 0 where
  pub from : low ≤ at
  pub to : at < high
  pub passes : test at ≡ true
  pub before : (m : ℕ) → low ≤ m → m < at → test m ≡ false

-- where some number passes, the first of those that pass is the first that does
pub first_of_those : (test : ℕ → Bool) (low n k : ℕ) → low ≤ k → k < low + n → test k ≡ true → FirstPassing test low (low + n) (get_or (those test (up_from low n)) 0 0)
unfolding up_from those
first_of_those test low zero k from to e = absurd (omega arith)
first_of_those test low (suc n) k from to e = go (test low) refl (λ later. first_of_those test (suc low) n k later (omega arith) e)
  where
    go : (b : Bool) → test low ≡ b → (suc low ≤ k → FirstPassing test (suc low) (suc low + n) (get_or (those test (up_from (suc low) n)) 0 0)) → FirstPassing test low (low + suc n) (get_or (cond b (low ∷ those test (up_from (suc low) n)) (those test (up_from (suc low) n))) 0 0)
    go true q rest = record { from = omega arith; to = omega arith; passes = q; before = λ m a b. absurd (omega (arith, a, b)) }
    go false q rest =
        let found = rest (⊎_elim (λ same. absurd (false≢true (sym q ∙ ap test same ∙ e))) (λ later. later) (eq-or-lt_of_le from)) in
        record {
          from = omega (arith, found.from);
          to = omega (arith, found.to);
          passes = found.passes;
          before = λ m a b. ⊎_elim (λ same. ap test (sym same) ∙ q) (λ later. found.before m later b) (eq-or-lt_of_le a);
        }
