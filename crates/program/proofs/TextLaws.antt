-- A text that a format writes piece by piece: what holds of the length of each piece holds of the length of the text.
-- Assumes nothing.
use Rattle.std.proofs.Common.{◌≡◌, ◌+◌, ◌≤◌, ℕ, List, [], ◌∷◌, length, arith, subst, Option, Some, None, IfSome}
use Rattle.std.proofs.lemmas.List.{length-append}
use Rattle.std.specs.List.{FoldsTo, concat}
use Rattle.std.specs.Fmt.{DisplaysOnOk, IsPlainFormatter}
use Rattle.std.specs.declared.fmt.Error.{Error}
use Rattle.std.specs.declared.fmt.Formatter.{Formatter}
use Rattle.std.specs.Prelude.{Result, IsOk}
use Rattle.program.specs.declared.output.Said.{Said}
use Rattle.program.specs.declared.output.Line.{Line}

module _ {W : Type 0} (grows : W → ℕ → W → Type 0) (still : (w : W) → grows w 0 w)
    (further : (w : W) (m : ℕ) (v : W) (n : ℕ) (u : W) → grows w m v → grows v n u → grows w (m + n) u) where
  abbrev Took : W → List ℕ → W → Type 0
  Took before piece after = grows before (length piece) after

  by_pieces : (w : W) (pieces : List (List ℕ)) (v : W) → FoldsTo Took w pieces v → grows w (length (concat pieces)) v
  by_pieces w [] v p = subst (grows w 0) p (still w)
  by_pieces w (x ∷ xs) v p = rw (length-append x (concat xs)) (further w (length x) p.0 (length (concat xs)) v p.1 (by_pieces p.0 xs v p.2))

  pub by_text : (f g : Formatter W) (r : Result (Unit {0}) Error) (o : Option (List ℕ)) → IsPlainFormatter f → IsOk r → DisplaysOnOk Took f r o g → IfSome o (λ text. grows f.writer (length text) g.writer)
  by_text f g r None plain ok p = tt
  by_text f g r (Some text) plain ok p =
      let wrote = (p plain ok).wrote in
      rw wrote.whole at (by_pieces f.writer wrote.parts g.writer wrote.calls)

-- no more bytes are taken of the text than it has
pub said_at_most : (f g : Formatter Said) (r : Result (Unit {0}) Error) (o : Option (List ℕ)) → f.writer.count ≡ 0 → IsPlainFormatter f → IsOk r
    → DisplaysOnOk (λ (before : Said) piece (after : Said). after.count ≤ before.count + length piece) f r o g
    → IfSome o (λ text. g.writer.count ≤ length text)
said_at_most f g r None none plain ok p = tt
said_at_most f g r (Some text) none plain ok p =
    let taken = by_text (λ (w : Said) n (v : Said). v.count ≤ w.count + n) (λ w. omega arith) (λ w m v n u a b. omega (arith, a, b)) f g r (Some text) plain ok p in
    omega (arith, none, taken)

-- the text has no more bytes than the line
pub line_at_least : (f g : Formatter Line) (r : Result (Unit {0}) Error) (o : Option (List ℕ)) → g.writer.count ≤ 128 → IsPlainFormatter f → IsOk r
    → DisplaysOnOk (λ (before : Line) piece (after : Line). before.count + length piece ≤ after.count) f r o g
    → IfSome o (λ text. length text ≤ 128)
line_at_least f g r None most plain ok p = tt
line_at_least f g r (Some text) most plain ok p =
    let long = by_text (λ (w : Line) n (v : Line). w.count + n ≤ v.count) (λ w. omega arith) (λ w m v n u a b. omega (arith, a, b)) f g r (Some text) plain ok p in
    omega (arith, most, long)
