-- A device of code and proofs: what the functions of the crate hand on, each fact by its name.
use Rattle.std.specs.Prelude.{◌≡◌, false, List, [], ◌∷◌, ◌++◌, ℕ, ◌+◌, ◌≤◌, ◌<◌, length, take, drop, set}
use Rattle.std.proofs.lemmas.List.Edits.{sets}
use Rattle.text.specs.declared.number.Digits.{Digits}
use Rattle.text.specs.declared.lines.Closer.{Closer}
use Rattle.text.specs.declared.lines.Cut.{Cut}
use Rattle.text.specs.declared.cutter.Cutter.{Cutter}
use Rattle.text.specs.Number.{leading, digits_from}
use Rattle.text.specs.Line.{field_limit}
use Rattle.text.specs.Lines.{closed_by, cut_of}
use Rattle.text.specs.Cutter.{held_room, held_line}

-- the digits that stand at a place of the text, at most `width` of them
pub record DigitsFound (s : List ℕ) (at width : ℕ) (answer : Digits) : Type 0 where
  pub digits : answer ≡ digits_from 0 0 (leading width (drop at s))
  pub within : at + answer.count ≤ length s

-- numbers that the writer of lines takes
pub record Writable (numbers : List ℕ) : Type 0 where
  pub some : 1 ≤ length numbers
  pub few : length numbers ≤ field_limit

-- these bytes were written at a place and nothing else, and the place after them is answered
pub record Wrote (before after : List ℕ) (at place : ℕ) (bytes : List ℕ) : Type 0 where
  pub place_after : place ≡ at + length bytes
  pub output : after ≡ sets before at bytes

-- and at most `room` of them
pub record WroteWithin (room : ℕ) (before after : List ℕ) (at place : ℕ) (bytes : List ℕ) : Type 0 where
  pub wrote : Wrote before after at place bytes
  pub short : place ≤ at + room

-- one byte more was put after the n bytes held
pub record ByteCut (closer : Closer) (limit n b : ℕ) (before after : List ℕ) (answer : Cut) : Type 0 where
  pub cut : answer ≡ cut_of closer limit (take n before ++ (b ∷ []))
  pub held : after ≡ set before n b

-- a cutter that holds a line shorter than the limit and not closed, in its room
pub record Holds (closer : Closer) (limit : ℕ) (c : Cutter) : Type 0 where
  pub short : c.count < limit
  pub room : length c.held ≡ held_room
  pub unclosed : closed_by closer (held_line c) ≡ false
