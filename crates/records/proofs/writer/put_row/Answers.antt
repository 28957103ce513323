-- `records::writer::put_row` meets its contract.
-- Assumes nothing.
use Rattle.records.specs.RecordRow.{record_text}
use borrow.Author.Rules.{rules}
use Rattle.records.proofs.writer.put_row.Goals as goal

pub put_line-requires : goal.put_line-requires
unfolding record_text
put_line-requires c =
    let e = c.field_numbers-numbers.ensures in
    (record { some = search rules; few = search rules }, rw e c.requires.1)

pub returns : goal.returns
unfolding record_text
returns c = rw c.field_numbers-numbers.ensures at c.put_line.ensures
