-- `records::writer::row_needs` meets its contract.
-- Assumes nothing.
use Rattle.records.specs.RecordRow.{record_text}
use Rattle.records.proofs.writer.row_needs.Goals as goal

pub returns : goal.returns
unfolding record_text
returns c = rw (c.line_length.ensures, c.field_numbers-numbers.ensures)
