-- How far the code has come in a portion of a configuration, line by line.
-- Assumes nothing.
use mathlib.Core.Path.{◌≡◌, refl, sym, ap, ◌∙◌}
use mathlib.Core.List.{List, []}
use Prim.Native.Nat.{ℕ, ◌≤◌, ◌<◌}
use native.Mathlib.Nat.{add-zero}
use native.Mathlib.Omega.{arith}
use lib.ListN.{length, drop, drop_of_length-le}
use Rattle.text.specs.declared.lines.Closer.TheVariants.{CrLf}
use Rattle.text.specs.declared.lines.Cut.{Cut}
use Rattle.text.specs.declared.lines.Cut.TheVariants.{Held, Closed, TooLong}
use Rattle.text.specs.declared.cutter.Cutter.{Cutter}
use Rattle.text.specs.declared.cutter.PieceCut.{PieceCut}
use Rattle.text.specs.Lines.{Cutting, cutting_by, cut_so_far, cutting}
use Rattle.text.specs.Cutter.{held_room, empty_cutter, held_line, held_after, piece_answer}
use Rattle.config.specs.declared.reader.Reading.{Reading}
use Rattle.config.specs.declared.reader.Reader.{Reader}
use Rattle.config.specs.Reader.{line_limit, after_line, after_lines, malformed, malformed_if, cut_portion, taken_cut, taken}
use Rattle.text.proofs.PieceLaws.{PieceTaken, piece_taken, cutting_goes_on}
use Rattle.text.proofs.KeptLaws.{line_taken_law}

-- ---- the rest of a portion from the place i on, by what the next piece did

module _ (s : Reader) (p : List ℕ) (i : ℕ) (short : s.cutter.count < line_limit) (room : length s.cutter.held ≡ held_room) (k : PieceCut)
    (answer : k ≡ piece_answer CrLf line_limit s.cutter p i) where
  abbrev line : List ℕ
  line = held_line k.cutter

  -- with the line taken
  abbrev next : Reader
  next = record { reading = after_line s.reading line; cutter = empty_cutter }

  abbrev cut_as : Cut → Cutting
  cut_as t = cutting_by t line (drop k.next p) (cut_so_far line) (cut_portion next (drop k.next p))

  piece : PieceTaken CrLf line_limit s.cutter p i k
  piece = piece_taken CrLf line_limit s.cutter p i short (omega arith) room k answer

  cut_here : (t : Cut) → k.cut ≡ t → cut_portion s (drop i p) ≡ cut_as t
  cut_here t e = cutting_goes_on CrLf line_limit s.cutter p i short (omega arith) room k answer ∙ ap cut_as e

  abbrev still : Cutter → Reader
  still c = record { reading = s.reading; cutter = c }

  taken_held : k.cut ≡ Held → taken s (drop i p) ≡ still k.cutter
  unfolding taken after_lines malformed_if held_after
  taken_held e = ap (taken_cut s (drop i p)) (cut_here Held e) ∙ ap still (sym (piece.all e))

  taken_long : k.cut ≡ TooLong → taken s (drop i p) ≡ record { reading = malformed s.reading; cutter = empty_cutter }
  unfolding taken after_lines malformed_if held_after
  taken_long e = ap (taken_cut s (drop i p)) (cut_here TooLong e)

  abbrev onward : Cutter → Reader
  onward c = record { reading = (taken_cut next (drop k.next p) (cut_portion next (drop k.next p))).reading; cutter = c }

  taken_closed : k.cut ≡ Closed → taken s (drop i p) ≡ taken next (drop k.next p)
  unfolding taken after_lines
  taken_closed e =
      ap (taken_cut s (drop i p)) (cut_here Closed e)
      ∙ ap onward (line_taken_law CrLf line_limit s.cutter (drop i p) line (drop k.next p))

-- ---- what holds of a portion at its place i: the state s and the rest of the portion give what the whole gives

pub record TakeTurn (r : Reader) (p : List ℕ) (i : ℕ) (s : Reader) : Type 0 where
  pub within : i ≤ length p
  pub room : length s.cutter.held ≡ held_room
  pub short : s.cutter.count < line_limit
  pub state : taken r p ≡ taken s (drop i p)

pub turn_first : (r : Reader) (p : List ℕ) → length r.cutter.held ≡ held_room → r.cutter.count < line_limit → TakeTurn r p 0 r
turn_first r p room short = record { within = omega arith; room = room; short = short; state = refl }

module _ (r : Reader) (p : List ℕ) (i : ℕ) (s : Reader) (turn : TakeTurn r p i s) where
  pub turn_last : length p ≤ i → s ≡ taken r p
  unfolding taken cutting after_lines malformed_if held_after
  turn_last l =
      let none : drop i p ≡ [] = drop_of_length-le p l in
      let over : taken s (drop i p) ≡ s = rw (none, add-zero s.cutter.count) in
      sym (turn.state ∙ over)

  module _ (more : i < length p) (k : PieceCut) (answer : k ≡ piece_answer CrLf line_limit s.cutter p i) where
    pub piece_cut : PieceTaken CrLf line_limit s.cutter p i k
    piece_cut = piece s p i turn.short turn.room k answer

    pub turn_held : k.cut ≡ Held → record { reading = s.reading; cutter = k.cutter } ≡ taken r p
    turn_held told = sym (turn.state ∙ taken_held s p i turn.short turn.room k answer told)

    pub turn_long : k.cut ≡ TooLong → record { reading = malformed s.reading; cutter = empty_cutter } ≡ taken r p
    turn_long told = sym (turn.state ∙ taken_long s p i turn.short turn.room k answer told)

    pub turn_closed : k.cut ≡ Closed → (t : Reading) → t ≡ after_line s.reading (held_line k.cutter)
        → TakeTurn r p k.next (record { reading = t; cutter = empty_cutter })
    turn_closed told t e =
        rw e (record {
          within = piece_cut.within more;
          room = refl;
          short = omega arith;
          state = turn.state ∙ taken_closed s p i turn.short turn.room k answer told;
        })
