-- A test's two cases, and what tests say together.
-- Assumes nothing.
use mathlib.Core.Path.{◌≡◌, refl, sym, ◌∙◌}
use mathlib.Core.Bool.{Bool, true, false, cond, false≢true}
pub use Rattle.std.proofs.lemmas.Bool.{false_from_ne_true as not_true}

module _ {A : Type 0} where
  pub by_cond : (P : A → Type 0) (t : Bool) (x y : A) → (t ≡ true → P x) → (t ≡ false → P y) → P (cond t x y)
  by_cond P true x y f g = f refl
  by_cond P false x y f g = g refl

pub not_both : (t : Bool) → t ≡ true → t ≡ false → ⊥
not_both t h e = false≢true (sym e ∙ h)

-- two tests that follow from each other are one
pub same_test : (a b : Bool) → (a ≡ true → b ≡ true) → (b ≡ true → a ≡ true) → a ≡ b
same_test true b f g = sym (f refl)
same_test false true f g = g refl
same_test false false f g = refl
