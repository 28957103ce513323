-- The reader of the record's rows (02, E1): "01's reader keeps its one block field; a second takes the eight".
use Rattle.std.specs.Prelude.{cond, List, [], ◌∷◌, Result, ℕ, get_or, take, drop}
use Rattle.rows.specs.declared.refusal.Refusal.{Refusal}
use Rattle.rows.specs.Refusal.{answer_by, refused_with}
use Rattle.rows.specs.Numbered.{numbered_refusal}
use Rattle.text.specs.Line.{numbers_of}
use Rattle.records.specs.declared.record_row.RecordRow.{RecordRow}
use Rattle.records.specs.Refusals.{wrong_status}
use Rattle.checks.specs.Range.{all_bits}
use Rattle.records.specs.Status.{byte_of}

-- 01's widths of a data row, with eight status fields of one digit in place of the block
abbrev pub record_widths : List ℕ
record_widths = 6 ∷ 10 ∷ 7 ∷ 7 ∷ 7 ∷ 1 ∷ 1 ∷ 1 ∷ 1 ∷ 1 ∷ 1 ∷ 1 ∷ 1 ∷ []

-- the longest line that it takes: as many digits, twelve commas, CR LF (`read_most` of `proofs/`)
abbrev pub longest_read : ℕ
longest_read = 59

-- "the eight": the fields after the third current
abbrev pub status_in : List ℕ → List ℕ
status_in ns = take 8 (drop 5 ns)

-- as 01's: "The timestamp is read and ignored."
abbrev pub record_in : List ℕ → RecordRow
record_in ns = record {
  number = get_or ns 0 0;
  l1 = get_or ns 2 0;
  l2 = get_or ns 3 0;
  l3 = get_or ns 4 0;
  outputs = byte_of (status_in ns);
}

-- "each 0 or 1, else 14"
abbrev pub status_refusal : List ℕ → ℕ
status_refusal ns = cond (all_bits (status_in ns)) 0 wrong_status

-- after a row of number `last`: by its shape, 13, 14
abbrev pub record_refusal : List ℕ → ℕ → Refusal
record_refusal s last = numbered_refusal record_widths status_refusal s last

-- what the reader answers
unfoldable pub record_answer : List ℕ → ℕ → Result RecordRow Refusal
record_answer s last = answer_by (record_refusal s last) (record_in (numbers_of s))

-- the paper's numbers for each case of the answer
abbrev pub record_numbers : Result RecordRow Refusal → Refusal
record_numbers x = refused_with x
