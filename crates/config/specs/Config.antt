-- A configuration file: what its lines give (02, E4; the words quoted are those of docs/DECISIONS.md, 77 and 78). The law
-- `config_of_calls` says that reading it by portions gives this, however the file is cut.
use Rattle.std.specs.Prelude.{cond, List, [], ◌∷◌, ℕ, ◌+◌, ◌-◌, eqb, get_or, Result, Ok, Err}
use Rattle.text.specs.Number.{value_of}
use Rattle.text.specs.Line.{body, fields_in}
use Rattle.text.specs.Lines.{lines_of}
use Rattle.text.specs.declared.lines.Closer.TheVariants.{CrLf}
use Rattle.config.specs.declared.reader.Fault.{Fault}
use Rattle.fields.specs.Marks.{unspaced}
use Rattle.config.specs.Refusals.{multiplier}
use Rattle.fields.specs.declared.field.Field.{Field}
use Rattle.config.specs.Line.{is_right}
use Rattle.config.specs.Shape.{Shape, shapes, shape_at}

-- "the refusal number and the line number"
abbrev pub refused_at : ℕ → ℕ → Result ℕ Fault
refused_at number line = Err (record { refusal = number; line = line })

-- the rate and the last sample number stand in this line
abbrev pub rate_line : ℕ
rate_line = 9

abbrev pub rate_fields : List Field
rate_fields = (shape_at (rate_line - 1)).fields

abbrev pub last_sample_in : List ℕ → ℕ
last_sample_in l = value_of (unspaced (get_or (fields_in (body l)) 1 []))

-- the last sample number after a line, by that line's number
abbrev pub last_after : ℕ → List ℕ → ℕ → ℕ
last_after line l last = cond (eqb line rate_line) (last_sample_in l) last

-- "The earliest line that is missing, malformed or outside what we take decides, with its line number": the lines from a line
-- number on, against the shapes that are due. "Bytes after line 13 are 27 with line number 14."
unfoldable pub read_from : ℕ → ℕ → List Shape → List (List ℕ) → Result ℕ Fault
read_from line last [] [] = Ok last
read_from line last [] (l ∷ ls) = refused_at multiplier line
read_from line last (x ∷ xs) [] = refused_at x.number line
read_from line last (x ∷ xs) (l ∷ ls) =
    cond (is_right x.fields l) (read_from (line + 1) (last_after line l last) xs ls) (refused_at x.number line)

-- WHAT A CONFIGURATION GIVES, of the whole file: the last sample number, or what is refused
unfoldable pub config_of : List ℕ → Result ℕ Fault
config_of s = read_from 1 0 shapes (lines_of CrLf s)

-- the paper's number for each case of the answer
abbrev pub config_number : Result ℕ Fault → ℕ
config_number (Ok last) = 0
config_number (Err x) = x.refusal
