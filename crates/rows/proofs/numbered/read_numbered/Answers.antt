-- `rows::numbered::read_numbered` meets its contract: the shape, then the number.
-- Assumes nothing.
use mathlib.Core.Path.{◌≡◌, sym, ap, ◌∙◌}
use Rattle.std.proofs.lemmas.Result.{err_from_is_err_and}
use Rattle.std.specs.Prelude.{Err}
use native.Mathlib.Omega.{arith}
use lib.ListN.{length}
use Rattle.std.proofs.Common.{rules}
use Rattle.rows.specs.Refusal.{misshapen}
use Rattle.rows.proofs.MappedErr.{mapped_ok, mapped_err}
use Rattle.rows.proofs.NumberedLaws.{read_wrong, read_other, read_next}
use Rattle.rows.proofs.numbered.read_numbered.Goals as goal

pub returns-in_err-numbers : goal.returns-in_err-numbers
returns-in_err-numbers c =
    let made = mapped_err c.map_err.result _ c.read_line.result _ c.map_err.ensures.cases c.in_err-numbers.was in
    let a = c.args in
    let after : c.in_err-numbers.field-0.0 ≡ misshapen (length a.widths.now) a.row.now made.was = search (rules, made.after) in
    let told = err_from_is_err_and c.from_residual.result c.from_residual.ensures.1 in
    rw (told.1, told.2, after) (read_wrong a.widths.now a.row.now a.last made.was (sym made.before ∙ c.read_line.ensures))

pub returns-then-numbers-last : goal.returns-then-numbers-last
returns-then-numbers-last c =
    let a = c.args in
    let was = mapped_ok c.map_err.result _ c.read_line.result _ c.map_err.ensures.cases c.in_ok-numbers.was in
    ap Err c.refuse.ensures ∙ read_other a.widths.now a.row.now a.last c.requires.some c.requires.few c.in_ok-numbers.numbers (sym was ∙ c.read_line.ensures) (λ z. omega arith)

pub returns : goal.returns
returns c =
    let a = c.args in
    let was = mapped_ok c.map_err.result _ c.read_line.result _ c.map_err.ensures.cases c.in_ok-numbers.was in
    read_next a.widths.now a.row.now a.last c.requires.some c.requires.few c.in_ok-numbers.numbers (sym was ∙ c.read_line.ensures) (omega arith)
