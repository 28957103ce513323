-- A row of the relay's record (02, E1): what it says, as numbers and as text.
use Rattle.std.specs.Prelude.{Bool, ◌&&◌, List, ◌∷◌, ℕ, ◌-◌, ◌*◌, leb}
use Rattle.checks.specs.Range.{in_range}
use Rattle.rows.specs.Row.{last_row, largest_current}
use Rattle.text.specs.Decimals.{line_of}
use Rattle.records.specs.declared.record_row.RecordRow.{RecordRow}
use Rattle.records.specs.Status.{status_of}

-- none of: "row number 0 or over 999,999, or a current over 9,999,999"
abbrev pub row_fits : RecordRow → Bool
row_fits x = in_range 1 last_row x.number && (leb x.l1 largest_current && (leb x.l2 largest_current && leb x.l3 largest_current))

-- "timestamp 1000 x (number - 1)"
abbrev pub timestamp : ℕ → ℕ
timestamp number = 1000 * (number - 1)

-- "row number, timestamp .., the three currents, then eight status fields"
abbrev pub field_numbers : RecordRow → List ℕ
field_numbers x = x.number ∷ timestamp x.number ∷ x.l1 ∷ x.l2 ∷ x.l3 ∷ status_of x.outputs

-- "without leading zeros, closed by CR LF", with commas between as in 01's data rows
unfoldable pub record_text : RecordRow → List ℕ
record_text x = line_of (field_numbers x)

-- the longest row that fits: 6, 9, three times 7 and eight times 1 digit, twelve commas, CR LF (`record_most` and
-- `most_reached` of `proofs/`)
abbrev pub longest_record : ℕ
longest_record = 58
