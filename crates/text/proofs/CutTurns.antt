-- How far the cutter has come in a portion, byte by byte: after a byte that is only held it answers what it answered at first.
-- Assumes nothing.
use mathlib.Core.Path.{◌≡◌, refl, sym, ap, ◌∙◌}
use mathlib.Core.List.{List, [], ◌∷◌, ◌++◌}
use Prim.Native.Nat.{ℕ, suc, ◌+◌, ◌≤◌, ◌<◌, max}
use native.Mathlib.Nat.{add-zero}
use native.Mathlib.Numerals.{add-one}
use native.Mathlib.Omega.{arith}
use lib.ListN.{length, get_or, drop, set, length-set, drop_of_length-le}
use lib.Seq.{take-suc-set, drop-cons}
use Rattle.text.specs.declared.lines.Closer.{Closer}
use Rattle.text.specs.declared.lines.Cut.{Cut}
use Rattle.text.specs.declared.lines.Cut.TheVariants.{Held, Closed, TooLong}
use Rattle.text.specs.declared.cutter.Cutter.{Cutter}
use Rattle.text.specs.declared.cutter.PieceCut.{PieceCut}
use Rattle.text.specs.Lines.{cut_of}
use Rattle.text.specs.Cutter.{Piece, piece_by, piece_of, held_room, held_line, cut_from, piece_from}
use Rattle.text.specs.device.Calls.{ByteCut}
use Rattle.text.proofs.CutLaws.{next_length, held_not_full}

pub record CutTurn (closer : Closer) (limit : ℕ) (first : Cutter) (p : List ℕ) (from : ℕ) (c : Cutter) (i : ℕ) : Type 0 where
  pub short : c.count < limit
  pub fits : limit ≤ held_room
  pub room : length c.held ≡ held_room
  pub same : piece_from closer limit first p from ≡ piece_from closer limit c p i
  pub at_end : i ≤ max from (length p)

abbrev pub piece_with : Cut → List ℕ → ℕ → ℕ → PieceCut
piece_with cut held count next = record { cut = cut; cutter = record { held = held; count = count }; next = next }

module _ (c : Cutter) (i b : ℕ) (x : Piece) where
  -- a byte that is only held, and then a piece
  on_by : (k : Cut) → k ≡ Held → cut_from c i (piece_by k b x) ≡ cut_from (record { held = set c.held c.count b; count = c.count + 1 }) (i + 1) x
  on_by k e =
      let m : c.count + suc (length x.bytes) ≡ c.count + 1 + length x.bytes = omega arith in
      let j : i + suc (length x.bytes) ≡ i + 1 + length x.bytes = omega arith in
      rw (e, m, j, add-one)

  -- the last byte of a piece
  done_by : (k : Cut) → (k ≡ Held → ⊥) → cut_from c i (piece_by k b x) ≡ piece_with k (set c.held c.count b) (c.count + 1) (i + 1)
  done_by Held e = absurd (e refl)
  done_by Closed e = refl
  done_by TooLong e = refl

module _ (closer : Closer) (limit : ℕ) (c : Cutter) (p : List ℕ) (i : ℕ) where
  from_end : length p ≤ i → piece_from closer limit c p i ≡ piece_with Held c.held c.count i
  unfolding piece_of
  from_end l = rw (drop_of_length-le p l, add-zero c.count, add-zero i)

  from_byte : i < length p → let next : List ℕ = held_line c ++ (get_or p i 0 ∷ []) in piece_from closer limit c p i ≡ cut_from c i (piece_by (cut_of closer limit next) (get_or p i 0) (piece_of closer limit next (drop (i + 1) p)))
  unfolding piece_of
  from_byte k = rw (drop-cons p i 0 k, add-one)

module _ (closer : Closer) (limit : ℕ) (first : Cutter) (p : List ℕ) (from : ℕ) (c : Cutter) (i : ℕ) (turn : CutTurn closer limit first p from c i) where
  pub turn_end : (next : ℕ) → from ≤ i → length p ≤ i → next ≡ max from (length p) → piece_with Held c.held c.count next ≡ piece_from closer limit first p from
  turn_end next f l e =
      let end : next ≡ i = omega (arith, turn.at_end) in
      rw end (sym (turn.same ∙ from_end closer limit c p i l))

  module _ (k : i < length p) (held : List ℕ) (cut : Cut) (x : ByteCut closer limit c.count (get_or p i 0) c.held held cut) where
    abbrev next : Cutter
    next = record { held = held; count = c.count + 1 }

    abbrev more : Piece
    more = piece_of closer limit (held_line c ++ (get_or p i 0 ∷ [])) (drop (i + 1) p)

    from_here : piece_from closer limit first p from ≡ cut_from c i (piece_by cut (get_or p i 0) more)
    from_here = turn.same ∙ from_byte closer limit c p i k ∙ ap (λ (t : Cut). cut_from c i (piece_by t (get_or p i 0) more)) (sym x.cut)

    next_line : held_line next ≡ held_line c ++ (get_or p i 0 ∷ [])
    next_line = rw (x.held, add-one) (take-suc-set c.held c.count (get_or p i 0) (omega (arith, turn.short, turn.fits, turn.room)))

    next_short : cut ≡ Held → c.count + 1 < limit
    next_short e =
        let n = next_length closer limit c.count (get_or p i 0) c.held (omega (arith, turn.short, turn.fits, turn.room)) in
        let f = held_not_full closer limit (held_line c ++ (get_or p i 0 ∷ [])) (sym x.cut ∙ e) in
        omega (arith, n, f, turn.short)

    pub turn_on : cut ≡ Held → CutTurn closer limit first p from next (i + 1)
    turn_on e =
        let stored = ap (λ (l : List ℕ). cut_from (record { held = l; count = c.count + 1 }) (i + 1) more) (sym x.held) in
        let lined = ap (λ (l : List ℕ). cut_from next (i + 1) (piece_of closer limit l (drop (i + 1) p))) (sym next_line) in
        record {
          short = next_short e;
          fits = turn.fits;
          room = rw (x.held, length-set) turn.room;
          at_end = omega arith;
          same = from_here ∙ on_by c i (get_or p i 0) more cut e ∙ stored ∙ lined;
        }

    pub turn_done : (cut ≡ Held → ⊥) → piece_with cut held (c.count + 1) (i + 1) ≡ piece_from closer limit first p from
    turn_done e = sym (from_here ∙ done_by c i (get_or p i 0) more cut e ∙ rw x.held)
