-- `rows::settings_line::read_settings_line` meets its contract: the shape first, then the check of the settings.
-- Assumes nothing.
use mathlib.Core.Path.{◌≡◌, sym, ap, ◌∙◌}
use native.Mathlib.Omega.{arith}
use lib.ListN.{length}
use Rattle.std.specs.Prelude.{Err}
use Rattle.std.proofs.Common.{rules}
use Rattle.std.proofs.lemmas.Result.{err_from_is_err_and}
use Rattle.rows.specs.Refusal.{misshapen}
use Rattle.rows.specs.Widths.{settings_widths}
use Rattle.rows.proofs.MappedErr.{mapped_ok, mapped_err}
use Rattle.rows.proofs.SettingsLineLaws.{settings_fits, settings_shape, settings_checked, settings_accepted, settings_told}
use Rattle.rows.proofs.settings_line.read_settings_line.Goals as goal

pub returns-in_err-n : goal.returns-in_err-n
returns-in_err-n c =
    let a = c.args in
    let made = mapped_err c.map_err.result _ c.read_line.result _ c.map_err.ensures.cases c.in_err-n.was in
    let after : c.in_err-n.field-0.0 ≡ misshapen (length settings_widths) a.line.now made.was = search (rules, made.after) in
    let told = err_from_is_err_and c.from_residual.result c.from_residual.ensures.1 in
    let shape = settings_shape a.line.now made.was (sym made.before ∙ c.read_line.ensures) in
    let (answer, numbers) = settings_told c.from_residual.result a.line.now (rw (told.1, told.2, after) shape) in
    record { answer = answer; numbers = numbers }

pub overflow_cast-settings : goal.overflow_cast-settings
overflow_cast-settings c =
    let was = mapped_ok c.map_err.result _ c.read_line.result _ c.map_err.ensures.cases c.in_ok-n.was in
    omega (arith, settings_fits c.args.line.now c.in_ok-n.n (sym was ∙ c.read_line.ensures) 0 (omega arith))

pub overflow_cast-settings-2 : goal.overflow_cast-settings-2
overflow_cast-settings-2 c =
    let was = mapped_ok c.map_err.result _ c.read_line.result _ c.map_err.ensures.cases c.in_ok-n.was in
    omega (arith, settings_fits c.args.line.now c.in_ok-n.n (sym was ∙ c.read_line.ensures) 1 (omega arith))

pub overflow_cast-settings-3 : goal.overflow_cast-settings-3
overflow_cast-settings-3 c =
    let was = mapped_ok c.map_err.result _ c.read_line.result _ c.map_err.ensures.cases c.in_ok-n.was in
    omega (arith, settings_fits c.args.line.now c.in_ok-n.n (sym was ∙ c.read_line.ensures) 2 (omega arith))

pub overflow_cast-settings-4 : goal.overflow_cast-settings-4
overflow_cast-settings-4 c =
    let was = mapped_ok c.map_err.result _ c.read_line.result _ c.map_err.ensures.cases c.in_ok-n.was in
    omega (arith, settings_fits c.args.line.now c.in_ok-n.n (sym was ∙ c.read_line.ensures) 3 (omega arith))

pub overflow_cast-settings-5 : goal.overflow_cast-settings-5
overflow_cast-settings-5 c =
    let was = mapped_ok c.map_err.result _ c.read_line.result _ c.map_err.ensures.cases c.in_ok-n.was in
    omega (arith, settings_fits c.args.line.now c.in_ok-n.n (sym was ∙ c.read_line.ensures) 4 (omega arith))

pub overflow_cast-settings-6 : goal.overflow_cast-settings-6
overflow_cast-settings-6 c =
    let was = mapped_ok c.map_err.result _ c.read_line.result _ c.map_err.ensures.cases c.in_ok-n.was in
    omega (arith, settings_fits c.args.line.now c.in_ok-n.n (sym was ∙ c.read_line.ensures) 5 (omega arith))

pub overflow_cast-settings-7 : goal.overflow_cast-settings-7
overflow_cast-settings-7 c =
    let was = mapped_ok c.map_err.result _ c.read_line.result _ c.map_err.ensures.cases c.in_ok-n.was in
    omega (arith, settings_fits c.args.line.now c.in_ok-n.n (sym was ∙ c.read_line.ensures) 6 (omega arith))

pub returns-then-refusal-ne0 : goal.returns-then-refusal-ne0
returns-then-refusal-ne0 c =
    let a = c.args in
    let was = mapped_ok c.map_err.result _ c.read_line.result _ c.map_err.ensures.cases c.in_ok-n.was in
    let (answer, numbers) = settings_told _ a.line.now (ap Err c.refuse.ensures ∙ settings_checked a.line.now c.in_ok-n.n (sym was ∙ c.read_line.ensures) c.check-refusal.result c.check-refusal.ensures c.if-refusal-ne0.true) in
    record { answer = answer; numbers = numbers }

pub returns : goal.returns
returns c =
    let a = c.args in
    let was = mapped_ok c.map_err.result _ c.read_line.result _ c.map_err.ensures.cases c.in_ok-n.was in
    let (answer, numbers) = settings_told _ a.line.now (settings_accepted a.line.now c.in_ok-n.n (sym was ∙ c.read_line.ensures) (sym c.check-refusal.ensures ∙ c.if-refusal-ne0.false)) in
    record { answer = answer; numbers = numbers }
