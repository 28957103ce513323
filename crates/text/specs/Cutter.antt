-- The cutter of a stream that comes in portions: it holds the line that has begun, and answers piece by piece.
use Rattle.std.specs.Prelude.{Bool, true, false, List, [], ◌∷◌, ◌++◌, ℕ, ◌+◌, min, ltb, length, take, drop, replicate}
use Rattle.std.proofs.lemmas.List.Edits.{sets}
use Rattle.text.specs.declared.lines.Closer.{Closer}
use Rattle.text.specs.declared.lines.Cut.{Cut}
use Rattle.text.specs.declared.lines.Cut.TheVariants.{Held, Closed, TooLong}
use Rattle.text.specs.declared.cutter.Cutter.{Cutter}
use Rattle.text.specs.declared.cutter.PieceCut.{PieceCut}
use Rattle.text.specs.Lines.{cut_of, Cutting}

-- ---- a piece of a stream: its bytes up to and with the first that is not only held, and what that one did; Held where
-- there is none

pub record Piece : Type 0 where
  pub cut : Cut
  pub bytes : List ℕ

-- the next byte, by what it did, and the piece after it
abbrev pub piece_by : Cut → ℕ → Piece → Piece
piece_by Held b more = record { cut = more.cut; bytes = b ∷ more.bytes }
piece_by Closed b more = record { cut = Closed; bytes = b ∷ [] }
piece_by TooLong b more = record { cut = TooLong; bytes = b ∷ [] }

unfoldable pub piece_of : Closer → ℕ → List ℕ → List ℕ → Piece
piece_of closer limit line [] = record { cut = Held; bytes = [] }
piece_of closer limit line (b ∷ s) =
    piece_by (cut_of closer limit (line ++ (b ∷ []))) b (piece_of closer limit (line ++ (b ∷ [])) s)

-- ---- the line that has begun

-- the longest line of any client
abbrev pub longest_of_all : ℕ
longest_of_all = 256

-- one byte more tells that a line is too long
abbrev pub held_room : ℕ
held_room = longest_of_all + 1

abbrev pub empty_cutter : Cutter
empty_cutter = record { held = replicate held_room 0; count = 0 }

abbrev pub held_line : Cutter → List ℕ
held_line c = take c.count c.held

-- with bytes more
abbrev pub holding : Cutter → List ℕ → Cutter
holding c bytes = record { held = sets c.held c.count bytes; count = c.count + length bytes }

-- ---- one call

-- no line is longer than the room
abbrev pub limit_of : ℕ → ℕ
limit_of limit = min limit held_room

abbrev pub cut_from : Cutter → ℕ → Piece → PieceCut
cut_from c from x = record { cut = x.cut; cutter = holding c x.bytes; next = from + length x.bytes }

-- the piece of a portion that begins at a place
abbrev pub piece_from : Closer → ℕ → Cutter → List ℕ → ℕ → PieceCut
piece_from closer limit c portion from = cut_from c from (piece_of closer limit (held_line c) (drop from portion))

-- a line that has as many bytes as the limit already is too long, and no byte is looked at
unfoldable pub piece_if : Bool → Closer → ℕ → Cutter → List ℕ → ℕ → PieceCut
piece_if true closer limit c portion from = piece_from closer limit c portion from
piece_if false closer limit c portion from = record { cut = TooLong; cutter = c; next = from }

abbrev pub piece_answer : Closer → ℕ → Cutter → List ℕ → ℕ → PieceCut
piece_answer closer limit c portion from =
    piece_if (ltb c.count (limit_of limit)) closer (limit_of limit) c portion from

-- ---- a portion

-- what is held after a portion whose lines the client has taken: nothing, where one was too long; all of it, where none was
-- closed; else what came after the last
unfoldable pub held_after : Bool → List (List ℕ) → List ℕ → Cutter → List ℕ → Cutter
held_after true ls held c portion = empty_cutter
held_after false [] held c portion = holding c portion
held_after false (l ∷ ls) held c portion = holding empty_cutter held

abbrev pub cutter_after : Cutting → Cutter → List ℕ → Cutter
cutter_after x c portion = held_after x.too_long x.lines x.held c portion
