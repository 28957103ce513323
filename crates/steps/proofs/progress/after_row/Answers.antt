-- `steps::progress::after_row` meets its contract: an accepted row is no later than the last.
-- Assumes nothing.
use mathlib.Core.Path.{sym, ◌∙◌}
use native.Mathlib.Omega.{arith}
use Rattle.rows.proofs.RowLaws.{accepted_row}
use Rattle.steps.proofs.progress.after_row.Goals as goal

pub after_tick-requires : goal.after_tick-requires
after_tick-requires c =
    let answer = sym c.read_row.ensures.answer ∙ c.in-Ok.is in
    omega (arith, (accepted_row c.args.line.now c.args.p.done c.in-Ok.x answer).number)
