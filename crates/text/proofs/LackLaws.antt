-- A text that lacks a byte, and a line that is put together from fields that lack it.
-- Assumes nothing.
use mathlib.Core.Path.{◌≡◌, refl}
use mathlib.Core.Bool.{Bool, true, false, not, ◌&&◌}
use mathlib.Core.List.{List, [], ◌∷◌, ◌++◌}
use Prim.Native.Nat.{ℕ, ◌<◌}
use lib.Dec.{eqb}
use borrow.Author.Tests.{not-true}
use Rattle.checks.proofs.Tests.{both_true}
use Rattle.text.specs.Number.{is_digit, all_digits}
use Rattle.text.specs.Line.{comma, spelled}
use Rattle.text.proofs.DigitLaws.{digit_is_not}

module _ (b : ℕ) where
  unfoldable pub lacks : List ℕ → Bool
  lacks [] = true
  lacks (a ∷ s) = not (eqb a b) && lacks s

  pub nothing_lacks : lacks [] ≡ true
  unfolding lacks
  nothing_lacks = refl

  pub more_lacks : (a : ℕ) (s : List ℕ) → eqb a b ≡ false → lacks s ≡ true → lacks (a ∷ s) ≡ true
  unfolding lacks
  more_lacks a s e h = rw (e, h)

  module _ (a : ℕ) (s : List ℕ) (h : lacks (a ∷ s) ≡ true) where
    pub first_lacks : eqb a b ≡ false
    unfolding lacks
    first_lacks = not-true (eqb a b) (both_true (not (eqb a b)) (lacks s) h).0

    pub rest_lacks : lacks s ≡ true
    unfolding lacks
    rest_lacks = (both_true (not (eqb a b)) (lacks s) h).1

  join_lacks : (s t : List ℕ) → lacks s ≡ true → lacks t ≡ true → lacks (s ++ t) ≡ true
  join_lacks [] t h k = k
  join_lacks (a ∷ s) t h k = more_lacks a (s ++ t) (first_lacks a s h) (join_lacks s t (rest_lacks a s h) k)

  -- digits lack every byte that stands before them
  pub digits_lack : b < 48 → (f : List ℕ) → all_digits f ≡ true → lacks f ≡ true
  unfolding all_digits
  digits_lack low [] h = nothing_lacks
  digits_lack low (d ∷ f) h =
      let (first, rest) = both_true (is_digit d) (all_digits f) h in
      more_lacks d f (digit_is_not b d low first) (digits_lack low f rest)

-- ---- a list, of each of which something holds

abbrev pub Each : {A : Type 0} → (A → Type 0) → List A → Type 0
Each P [] = Unit {0}
Each P (f ∷ fs) = P f × Each P fs

-- what holds of each field and of a comma, and of two texts together, holds of the line
pub by_spelled : (P : List ℕ → Type 0) → P [] → P (comma ∷ []) → ((s t : List ℕ) → P s → P t → P (s ++ t)) → (fs : List (List ℕ)) → Each P fs → P (spelled fs)
unfolding spelled
by_spelled P none mark join [] h = none
by_spelled P none mark join (f ∷ []) (here, others) = here
by_spelled P none mark join (f ∷ g ∷ gs) (here, others) =
    join f (comma ∷ spelled (g ∷ gs)) here (join (comma ∷ []) (spelled (g ∷ gs)) mark (by_spelled P none mark join (g ∷ gs) others))

pub spelled_lacks : (b : ℕ) → eqb comma b ≡ false → (fs : List (List ℕ)) → Each (λ (f : List ℕ). lacks b f ≡ true) fs → lacks b (spelled fs) ≡ true
spelled_lacks b e fs h =
    by_spelled (λ (f : List ℕ). lacks b f ≡ true) (nothing_lacks b) (more_lacks b comma [] e (nothing_lacks b)) (join_lacks b) fs h
