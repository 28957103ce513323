-- How long the lines of output are, and the stores that write them.
-- Assumes nothing.
use mathlib.Core.Path.{◌≡◌, ap, ◌∙◌}
use Prim.Native.Nat.{ℕ, ◌+◌, ◌*◌, ◌≤◌, ◌<◌}
use native.Mathlib.Omega.{arith}
use lib.ListN.{length, length-append}
use lib.Seq.{length-sets}
use Rattle.steps.specs.declared.output.Form.{Form}
use Rattle.steps.specs.declared.output.Form.TheVariants.{Changes, Record, Explain, ExplainAll}
use Rattle.text.specs.Number.{decimal}
use Rattle.steps.specs.Output.{pair_line, change_line, change_room, record_row, note_room, spread, end_line, end_room}
use Rattle.steps.specs.device.Calls.{Notable}
use Rattle.text.specs.declared.page.Page.{Page}
use Rattle.text.specs.device.Page.{Put}
use Rattle.rows.specs.declared.row.Row.{Row}
use Rattle.rows.specs.Row.{last_row}
use Rattle.rows.proofs.RowLaws.{shortest_row}
use Rattle.records.specs.declared.writer.RowWritten.{RowWritten}
use Rattle.records.specs.RecordRow.{record_text, longest_record}
use Rattle.records.specs.Writer.{WriteAnswer, write_answer}
use Rattle.records.proofs.WriterLaws.{Fits, fits_row}
use Rattle.records.proofs.BackLaws.{record_most, write_fits}
use Rattle.text.proofs.DecimalLaws.{decimal_short}

pub pair_length : (a b : ℕ) → length (pair_line a b) ≡ length (decimal a) + 1 + length (decimal b) + 1
pair_length a b = rw (length-append, length-append) (omega arith)

-- a change line has at most 6 + 1 + 3 + 1 bytes
pub change_short : (row outputs : ℕ) → row ≤ last_row → outputs < 256 → length (change_line row outputs) ≤ change_room
change_short row outputs h k =
    omega (arith, pair_length row outputs, decimal_short 5 row (omega arith) (omega arith), decimal_short 2 outputs (omega arith) (omega arith))

-- an end line of 32-bit numbers at most 4 + 10 + 1 + 10 + 1
pub end_short : (done refusal : ℕ) → done < 4294967296 → refusal < 4294967296 → length (end_line done refusal) ≤ end_room
end_short done refusal h k =
    let ten = decimal_short 9 done (omega arith) (omega arith) in
    let ten_more = decimal_short 9 refusal (omega arith) (omega arith) in
    omega (arith, pair_length done refusal)

-- ---- a row of the record

noted_fits : (done : ℕ) (x : Row) (outputs at room : ℕ) → Notable Record done x at room → Fits (record_row (done + 1) x outputs)
noted_fits done x outputs at room h =
    record { some = omega arith; most = omega (arith, h.number); first = h.first; second = h.second; third = h.third }

-- what its writer answered, on a page
pub record_put : (done : ℕ) (x : Row) (outputs : ℕ) (before after : Page) (r : RowWritten) → Notable Record done x before.at (length before.out.now)
    → after.out.ghost_name ≡ before.out.ghost_name → after.at ≡ r.place
    → record { answer = r; buffer = after.out.now } ≡ write_answer before.out.now before.at (record_row (done + 1) x outputs)
    → Put longest_record before after (record_text (record_row (done + 1) x outputs))
record_put done x outputs before after r h same p e =
    let row = record_row (done + 1) x outputs in
    let f = noted_fits done x outputs before.at (length before.out.now) h in
    let w = e ∙ write_fits before.out.now before.at row f h.free in
    let output = ap (λ (a : WriteAnswer). a.buffer) w in
    record {
      same_buffer = same;
      as_long = ap length output ∙ simp length-sets;
      place_after = p ∙ ap (λ (a : WriteAnswer). a.answer.place) w;
      output = output;
      short = record_most row (fits_row row f);
    }

-- ---- room for what an accepted row writes, by its length

pub row_room : (form : Form) (at long room : ℕ) → shortest_row ≤ long → at + spread form * long ≤ room → at + note_room form ≤ room
row_room Changes at long room h k = omega arith
row_room Record at long room h k = omega arith
row_room (Explain row) at long room h k = omega arith
row_room ExplainAll at long room h k = omega arith

pub row_short : (form : Form) (long : ℕ) → shortest_row ≤ long → note_room form ≤ spread form * long
row_short Changes long h = omega arith
row_short Record long h = omega arith
row_short (Explain row) long h = omega arith
row_short ExplainAll long h = omega arith
