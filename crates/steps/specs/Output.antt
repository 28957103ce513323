-- What the rows of the input write, by the form: change lines (01, 'Rows and the replay program'), rows of the record (02, E1),
-- or the explanation of one row (02, E2) or of every row; and the end line.
use Rattle.std.specs.Prelude.{cond, List, [], ◌∷◌, ◌++◌, ℕ, ◌+◌, eqb}
use Rattle.explanations.specs.Explanation.{explanation, explanation_room}
use Rattle.relay.specs.declared.tick.RelayTicked.{RelayTicked}
use Rattle.rows.specs.declared.row.Row.{Row}
use Rattle.records.specs.declared.record_row.RecordRow.{RecordRow}
use Rattle.records.specs.RecordRow.{record_text, longest_record}
use Rattle.steps.specs.declared.output.Form.{Form}
use Rattle.steps.specs.declared.output.Form.TheVariants.{Changes, Record, Explain, ExplainAll}
use Rattle.steps.specs.declared.progress.Progress.{Progress}
use Rattle.text.specs.Number.{decimal}
use Rattle.text.specs.Line.{comma, lf}
use Rattle.text.specs.Words.{bytes_of}

-- "Both forms have commas between, decimals without leading zeros, and LF at the end."
abbrev pub pair_line : ℕ → ℕ → List ℕ
pair_line a b = decimal a ++ (comma ∷ decimal b) ++ (lf ∷ [])

-- "one line, row number and output byte"
abbrev pub change_line : ℕ → ℕ → List ℕ
change_line row outputs = pair_line row outputs

-- "the end line: `end`, rows done, the refusal number"
abbrev pub end_line : ℕ → ℕ → List ℕ
end_line done refusal = bytes_of "end," ++ pair_line done refusal

-- "for each tick whose byte differs from the one before"
abbrev pub change_of : ℕ → ℕ → ℕ → List ℕ
change_of number outputs before = cond (eqb outputs before) [] (change_line number outputs)

-- the record's row: the currents as they were read, the output byte of the tick
abbrev pub record_row : ℕ → Row → ℕ → RecordRow
record_row number x outputs = record { number = number; l1 = x.sample.l1; l2 = x.sample.l2; l3 = x.sample.l3; outputs = outputs }

-- the explanation of a row, by the settings and the relay's state before its tick
abbrev pub row_explained : Progress → Row → List ℕ
row_explained p x = explanation p.settings p.relay x.sample

-- that of the asked row alone
abbrev pub explained_of : ℕ → Progress → Row → List ℕ
explained_of row p x = cond (eqb (p.done + 1) row) (row_explained p x) []

-- what a row done writes, by how far the replay had come, what was read, and its tick
abbrev pub note_of : Form → Progress → Row → RelayTicked → List ℕ
note_of Changes p x t = change_of (p.done + 1) t.outputs p.outputs
note_of Record p x t = record_text (record_row (p.done + 1) x t.outputs)
note_of (Explain row) p x t = explained_of row p x
note_of ExplainAll p x t = row_explained p x

-- ---- how much room that takes

-- room for the change line of any row number and output byte: 6 digits and 3, a comma and LF
abbrev pub change_room : ℕ
change_room = 11

-- room for the end line of any two 32-bit numbers
abbrev pub end_room : ℕ
end_room = 26

-- room for what any row writes
abbrev pub note_room : Form → ℕ
note_room Changes = change_room
note_room Record = longest_record
note_room (Explain row) = explanation_room
note_room ExplainAll = explanation_room

-- no line of the input writes more than so many times its own bytes: a row done has at least 13
abbrev pub spread : Form → ℕ
spread Changes = 1
spread Record = 5
spread (Explain row) = 46
spread ExplainAll = 46
