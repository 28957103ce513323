-- `rows::refusal::is_row_for_settings` meets its contract: the line is read as a row.
-- Assumes nothing.
use mathlib.Core.Path.{sym, ◌∙◌}
use Rattle.rows.proofs.RowLaws.{first_read, first_unread}
use Rattle.rows.proofs.refusal.is_row_for_settings.Goals as goal

pub returns-in-Ok : goal.returns-in-Ok
returns-in-Ok c = rw c.if-fields-eq7.true (first_read c.args.line.now c.in-Ok.n (sym c.in-Ok.is ∙ c.read_line.ensures))

pub returns-in-Err : goal.returns-in-Err
returns-in-Err c = rw c.if-fields-eq7.true (first_unread c.args.line.now _ (sym c.in-Err.is ∙ c.read_line.ensures))
