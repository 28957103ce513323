-- `steps::progress::on_row` meets its contract: what an accepted row writes fits its length.
-- Assumes nothing.
use mathlib.Core.Path.{sym, ◌∙◌}
use native.Mathlib.Omega.{arith}
use lib.ListN.{length}
use Rattle.rows.proofs.RowLaws.{accepted_row}
use Rattle.text.proofs.PageLaws.{put_within}
use Rattle.steps.proofs.OutputLaws.{row_room, row_short}
use Rattle.steps.proofs.progress.on_row.Goals as goal

pub note_tick-requires : goal.note_tick-requires
note_tick-requires c =
    let a = c.args in
    let answer = sym c.read_row.ensures.answer ∙ c.in-Ok.is in
    let row = accepted_row a.line.now a.p.done c.in-Ok.x answer in
    record {
      number = omega (arith, row.number);
      first = row.first;
      second = row.second;
      third = row.third;
      free = row_room a.form a.page.now.at (length a.line.now) (length a.page.now.out.now) row.long c.requires;
    }

pub after_tick-requires : goal.after_tick-requires
after_tick-requires c =
    let answer = sym c.read_row.ensures.answer ∙ c.in-Ok.is in
    omega (arith, (accepted_row c.args.line.now c.args.p.done c.in-Ok.x answer).number)

pub returns-in-Ok-clause-wrote : goal.returns-in-Ok-clause-wrote
returns-in-Ok-clause-wrote c =
    let a = c.args in
    let answer = sym c.read_row.ensures.answer ∙ c.in-Ok.is in
    let row = accepted_row a.line.now a.p.done c.in-Ok.x answer in
    rw (answer, ← c.tick_row-t.ensures) (put_within _ c.note_tick.ensures (row_short a.form (length a.line.now) row.long))
