-- `records::reader::read_record_row` meets its contract: the shape and the number, then the status fields.
-- Assumes nothing.
use mathlib.Core.Path.{sym, ap, ◌∙◌}
use native.Mathlib.Omega.{arith}
use Rattle.std.specs.Prelude.{Err}
use Rattle.std.proofs.lemmas.Result.{err_from_is_err_and}
use Rattle.records.proofs.ReaderLaws.{record_told, record_unread, field_fits, record_wrong_status, record_accepted}
use Rattle.records.proofs.reader.read_record_row.Goals as goal

pub returns-in_err-n : goal.returns-in_err-n
returns-in_err-n c =
    let a = c.args in
    let told = err_from_is_err_and c.from_residual.result c.from_residual.ensures.1 in
    let unread = record_unread a.row.now a.last _ (sym c.in_err-n.was ∙ c.read_numbered.ensures) in
    let (answer, numbers) = record_told c.from_residual.result a.row.now a.last (rw (told.1, told.2) unread) in
    record { answer = answer; numbers = numbers }

pub overflow_cast-result : goal.overflow_cast-result
overflow_cast-result c = omega (arith, field_fits c.args.row.now c.args.last c.in_ok-n.n (sym c.in_ok-n.was ∙ c.read_numbered.ensures) 0 (omega arith))

pub overflow_cast-result-2 : goal.overflow_cast-result-2
overflow_cast-result-2 c = omega (arith, field_fits c.args.row.now c.args.last c.in_ok-n.n (sym c.in_ok-n.was ∙ c.read_numbered.ensures) 2 (omega arith))

pub overflow_cast-result-3 : goal.overflow_cast-result-3
overflow_cast-result-3 c = omega (arith, field_fits c.args.row.now c.args.last c.in_ok-n.n (sym c.in_ok-n.was ∙ c.read_numbered.ensures) 3 (omega arith))

pub overflow_cast-result-4 : goal.overflow_cast-result-4
overflow_cast-result-4 c = omega (arith, field_fits c.args.row.now c.args.last c.in_ok-n.n (sym c.in_ok-n.was ∙ c.read_numbered.ensures) 4 (omega arith))

pub returns-in_default : goal.returns-in_default
returns-in_default c =
    let a = c.args in
    let read = sym c.in_ok-n.was ∙ c.read_numbered.ensures in
    let wrong = record_wrong_status a.row.now a.last c.in_ok-n.n read (sym c.in_default.is ∙ c.read_status.ensures) in
    let (answer, numbers) = record_told _ a.row.now a.last (ap Err c.refuse.ensures ∙ wrong) in
    record { answer = answer; numbers = numbers }

pub returns : goal.returns
returns c =
    let a = c.args in
    let read = sym c.in_ok-n.was ∙ c.read_numbered.ensures in
    let accepted = record_accepted a.row.now a.last c.in_ok-n.n read c.in-Some.outputs (sym c.in-Some.is ∙ c.read_status.ensures) in
    let (answer, numbers) = record_told _ a.row.now a.last accepted in
    record { answer = answer; numbers = numbers }
