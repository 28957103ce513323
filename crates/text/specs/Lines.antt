-- The lines of a stream (01's data rows), closed by CR LF or by LF alone.
use Rattle.std.specs.Prelude.{Bool, true, false, cond, ◌||◌, List, [], ◌∷◌, ◌++◌, ℕ, eqb, length}
use Rattle.text.specs.declared.lines.Closer.{Closer}
use Rattle.text.specs.declared.lines.Closer.TheVariants.{CrLf, Lf}
use Rattle.text.specs.declared.lines.Cut.{Cut}
use Rattle.text.specs.declared.lines.Cut.TheVariants.{Held, Closed, TooLong}
use Rattle.text.specs.Line.{is_lf, ends_cr_lf}

-- LF stands at the end
unfoldable pub ends_lf : List ℕ → Bool
ends_lf [] = false
ends_lf (a ∷ s) = is_lf (a ∷ s) || ends_lf s

abbrev pub closed_by : Closer → List ℕ → Bool
closed_by CrLf s = ends_cr_lf s
closed_by Lf s = ends_lf s

-- what is left at the end of the stream and is not closed is a line too, where there is any
unfoldable pub last_line : List ℕ → List (List ℕ)
last_line [] = []
last_line (a ∷ l) = (a ∷ l) ∷ []

-- a line runs to and with the next closer, or to the end of the stream: the lines, where `line` was passed already
unfoldable pub lines_from : Closer → List ℕ → List ℕ → List (List ℕ)
lines_from closer line [] = last_line line
lines_from closer line (b ∷ s) =
    cond (closed_by closer (line ++ (b ∷ [])))
    ((line ++ (b ∷ [])) ∷ lines_from closer [] s)
    (lines_from closer (line ++ (b ∷ [])) s)

abbrev pub lines_of : Closer → List ℕ → List (List ℕ)
lines_of closer s = lines_from closer [] s

-- ---- what the cutter of a stream answers

-- The line that has begun, with the next byte: closed; or as long as `limit`, one more than the longest line that a
-- client takes, and not closed; or to be held.
abbrev pub cut_of : Closer → ℕ → List ℕ → Cut
cut_of closer limit line = cond (closed_by closer line) Closed (cond (eqb (length line) limit) TooLong Held)

-- What the cutter makes of a stream, byte by byte: the lines that it closes, what it holds at the end, and whether that is too
-- long; then what came after it was not looked at.
pub record Cutting : Type 0 where
  pub lines : List (List ℕ)
  pub held : List ℕ
  pub too_long : Bool
  pub unread : List ℕ

abbrev pub one_more : List ℕ → Cutting → Cutting
one_more line c = record { lines = line ∷ c.lines; held = c.held; too_long = c.too_long; unread = c.unread }

-- by what the next byte did to the line: held, the cutting goes on with the line; closed, with none
abbrev pub cutting_by : Cut → List ℕ → List ℕ → Cutting → Cutting → Cutting
cutting_by Held line s held closed = held
cutting_by Closed line s held closed = one_more line closed
cutting_by TooLong line s held closed = record { lines = []; held = line; too_long = true; unread = s }

-- at the end of what was read
abbrev pub cut_so_far : List ℕ → Cutting
cut_so_far line = record { lines = []; held = line; too_long = false; unread = [] }

unfoldable pub cutting : Closer → ℕ → List ℕ → List ℕ → Cutting
cutting closer limit line [] = cut_so_far line
cutting closer limit line (b ∷ s) =
    cutting_by (cut_of closer limit (line ++ (b ∷ []))) (line ++ (b ∷ [])) s
    (cutting closer limit (line ++ (b ∷ [])) s)
    (cutting closer limit [] s)

-- the stream that portions are
unfoldable pub joined : List (List ℕ) → List ℕ
joined [] = []
joined (p ∷ ps) = p ++ joined ps
