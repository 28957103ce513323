-- `rows::row::read_row` meets its contract: the shape and the number, then the block.
-- Assumes nothing.
use mathlib.Core.Path.{sym, ap, ◌∙◌}
use native.Mathlib.Omega.{arith}
use Rattle.std.specs.Prelude.{Err}
use Rattle.std.proofs.lemmas.Result.{err_from_is_err_and}
use Rattle.rows.proofs.RowLaws.{row_told, row_unread, row_fits_law, row_block, row_accepted}
use Rattle.rows.proofs.row.read_row.Goals as goal

pub returns-in_err-n : goal.returns-in_err-n
returns-in_err-n c =
    let a = c.args in
    let told = err_from_is_err_and c.from_residual.result c.from_residual.ensures.1 in
    let unread = row_unread a.row.now a.last _ (sym c.in_err-n.was ∙ c.read_numbered.ensures) in
    let (answer, numbers) = row_told c.from_residual.result a.row.now a.last (rw (told.1, told.2) unread) in
    record { answer = answer; numbers = numbers }

pub returns-then-n-gt1 : goal.returns-then-n-gt1
returns-then-n-gt1 c =
    let a = c.args in
    let read = sym c.in_ok-n.was ∙ c.read_numbered.ensures in
    let (answer, numbers) = row_told _ a.row.now a.last (ap Err c.refuse.ensures ∙ row_block a.row.now a.last c.in_ok-n.n read c.if-n-gt1.true) in
    record { answer = answer; numbers = numbers }

pub overflow_cast-result : goal.overflow_cast-result
overflow_cast-result c = omega (arith, row_fits_law c.args.row.now c.args.last c.in_ok-n.n (sym c.in_ok-n.was ∙ c.read_numbered.ensures) 0 (omega arith))

pub overflow_cast-result-2 : goal.overflow_cast-result-2
overflow_cast-result-2 c = omega (arith, row_fits_law c.args.row.now c.args.last c.in_ok-n.n (sym c.in_ok-n.was ∙ c.read_numbered.ensures) 2 (omega arith))

pub overflow_cast-result-3 : goal.overflow_cast-result-3
overflow_cast-result-3 c = omega (arith, row_fits_law c.args.row.now c.args.last c.in_ok-n.n (sym c.in_ok-n.was ∙ c.read_numbered.ensures) 3 (omega arith))

pub overflow_cast-result-4 : goal.overflow_cast-result-4
overflow_cast-result-4 c = omega (arith, row_fits_law c.args.row.now c.args.last c.in_ok-n.n (sym c.in_ok-n.was ∙ c.read_numbered.ensures) 4 (omega arith))

pub returns : goal.returns
returns c =
    let a = c.args in
    let read = sym c.in_ok-n.was ∙ c.read_numbered.ensures in
    let (answer, numbers) = row_told _ a.row.now a.last (row_accepted a.row.now a.last c.in_ok-n.n read c.if-n-gt1.false) in
    record { answer = answer; numbers = numbers }
