-- An answer whose error was made another by `map_err`.
-- Assumes nothing.
use mathlib.Core.Path.{◌≡◌, refl, ◌∙◌, sym}
use Rattle.std.specs.Prelude.{Result, Ok, Err, MatchResult, IsErrAnd}
use Rattle.std.proofs.lemmas.Result.{err_from_is_err_and}

module _ {T E F : Type 0} (m : Result T F) (made : E → F → Type 0) where
  abbrev Mapped : Result T E → Type 0
  Mapped r = MatchResult r (λ x. m ≡ Ok x) (λ e. IsErrAnd m (made e))

  pub mapped_ok : (r : Result T E) (x : T) → Mapped r → m ≡ Ok x → r ≡ Ok x
  mapped_ok (Ok y) x h e = let q : ◌≡◌ {A = Result T F} (Ok y) (Ok x) = sym h ∙ e in cc
  mapped_ok (Err d) x h e = let p = err_from_is_err_and m h in let q : Ok x ≡ Err p.0 = sym e ∙ p.1 in cc

  pub record MadeErr (r : Result T E) (y : F) : Type 0 where
    pub was : E
    pub before : r ≡ Err was
    pub after : made was y

  pub mapped_err : (r : Result T E) (y : F) → Mapped r → m ≡ Err y → MadeErr r y
  mapped_err (Ok x) y h e = let q : Ok x ≡ Err y = sym h ∙ e in cc
  mapped_err (Err d) y h e =
      let p = err_from_is_err_and m h in
      let same : p.0 ≡ y = let q : Err p.0 ≡ Err y = sym p.1 ∙ e in cc in
      record { was = d; before = refl; after = rw same at p.2 }
