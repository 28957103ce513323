-- What the reader of a configuration answers, portion by portion.
use Rattle.std.specs.Prelude.{Bool, true, false, cond, ◌&&◌, List, [], ◌∷◌, ℕ, ◌+◌, ◌-◌, ltb, Option, Some, None, is_none, Result, Ok}
use Rattle.checks.specs.Range.{in_range}
use Rattle.text.specs.declared.lines.Closer.TheVariants.{CrLf}
use Rattle.text.specs.Lines.{Cutting, cutting}
use Rattle.text.specs.Cutter.{empty_cutter, held_line, cutter_after}
use Rattle.config.specs.declared.reader.Reading.{Reading}
use Rattle.config.specs.declared.reader.Reader.{Reader}
use Rattle.config.specs.declared.reader.Fault.{Fault}
use Rattle.config.specs.Config.{refused_at, last_after}
use Rattle.config.specs.Refusals.{multiplier}
use Rattle.config.specs.Line.{longest_line, is_right}
use Rattle.config.specs.Shape.{line_count, shape_at}

-- ---- how far it has come: the number of the line that is due, the last sample number, and the refusal, where there is one

abbrev pub fresh_reading : Reading
fresh_reading = record { line = 1; last = 0; refusal = None }

-- whether one of the thirteen lines is due
abbrev pub is_due : ℕ → Bool
is_due line = in_range 1 line_count line

-- whether the line that is due is this one: after the thirteenth no line is
abbrev pub is_right_at : ℕ → List ℕ → Bool
is_right_at line l = is_due line && is_right (shape_at (line - 1)).fields l

-- the refusal number of the line that is due, after the thirteenth that of the multiplier
abbrev pub number_due : ℕ → ℕ
number_due line = cond (is_due line) (shape_at (line - 1)).number multiplier

abbrev pub passed : Reading → List ℕ → Reading
passed r l = record { line = r.line + 1; last = last_after r.line l r.last; refusal = None }

abbrev pub refused : Reading → Reading
refused r = record { line = r.line; last = r.last; refusal = Some (number_due r.line) }

-- a line, where nothing was refused before
unfoldable pub after_line_if : Bool → Reading → List ℕ → Reading
after_line_if true r l = cond (is_right_at r.line l) (passed r l) (refused r)
after_line_if false r l = r

abbrev pub after_line : Reading → List ℕ → Reading
after_line r l = after_line_if (is_none r.refusal) r l

unfoldable pub after_lines : Reading → List (List ℕ) → Reading
after_lines r [] = r
after_lines r (l ∷ ls) = after_lines (after_line r l) ls

-- a line that is too long, or that the end of the file leaves open, is malformed
abbrev pub malformed : Reading → Reading
malformed r = cond (is_none r.refusal) (refused r) r

unfoldable pub malformed_if : Bool → Reading → Reading
malformed_if true r = malformed r
malformed_if false r = r

-- ---- a state: how far it has come, and the cutter that holds the line that has begun

abbrev pub line_limit : ℕ
line_limit = longest_line + 1

abbrev pub fresh_reader : Reader
fresh_reader = record { reading = fresh_reading; cutter = empty_cutter }

abbrev pub cut_portion : Reader → List ℕ → Cutting
cut_portion r s = cutting CrLf line_limit (held_line r.cutter) s

abbrev pub taken_cut : Reader → List ℕ → Cutting → Reader
taken_cut r s x = record {
  reading = malformed_if x.too_long (after_lines r.reading x.lines);
  cutter = cutter_after x r.cutter s;
}

unfoldable pub taken : Reader → List ℕ → Reader
taken r s = taken_cut r s (cut_portion r s)

-- a state that holds a line too long already, which none does that comes of the fresh one, refuses it
unfoldable pub taken_if : Bool → Reader → List ℕ → Reader
taken_if true r s = taken r s
taken_if false r s = record { reading = malformed r.reading; cutter = empty_cutter }

-- WHAT A PORTION DOES
abbrev pub take_answer : Reader → List ℕ → Reader
take_answer r s = taken_if (ltb r.cutter.count line_limit) r s

-- one portion after the other
abbrev pub taken_all : Reader → List (List ℕ) → Reader
taken_all r [] = r
taken_all r (p ∷ ps) = taken_all (take_answer r p) ps

-- ---- the end of the file

abbrev pub last_reading : Reader → Reading
last_reading r = malformed_if (ltb 0 r.cutter.count) r.reading

-- none after the thirteenth line; else that of the line that was refused, or of the one that is missing
unfoldable pub end_refusal : Reading → Option ℕ
end_refusal r = cond (is_none r.refusal) (cond (ltb line_count r.line) None (Some (number_due r.line))) r.refusal

abbrev pub answer_by : Option ℕ → Reading → Result ℕ Fault
answer_by None r = Ok r.last
answer_by (Some refusal) r = refused_at refusal r.line

abbrev pub answer_of : Reading → Result ℕ Fault
answer_of r = answer_by (end_refusal r) r

-- WHAT THE END ANSWERS
abbrev pub end_answer : Reader → Result ℕ Fault
end_answer r = answer_of (last_reading r)
