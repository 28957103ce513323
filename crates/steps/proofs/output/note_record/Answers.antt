-- `steps::output::note_record` meets its contract: the row is accepted.
-- Assumes nothing.
use mathlib.Core.Path.{refl}
use Rattle.steps.proofs.OutputLaws.{record_put}
use Rattle.steps.proofs.output.note_record.Goals as goal

pub returns : goal.returns
returns c =
    let a = c.args in
    record_put a.done a.x a.outputs a.page.now _ c.write_row.result c.requires refl refl c.write_row.ensures
