-- `config::line::is_right_at` meets its contract: test by test.
-- Assumes nothing.
use mathlib.Core.Path.{◌≡◌, sym, ◌∙◌}
use mathlib.Core.Bool.{true, false}
use native.Mathlib.Omega.{arith}
use Rattle.std.proofs.lemmas.Bool.Decides.{nat_tests}
use Rattle.text.specs.Line.{ends_cr_lf}
use Rattle.text.proofs.CutLaws.{cr_lf_at, cr_lf_none}
use Rattle.config.proofs.LineLaws.{due_line, line_too_long, line_open, line_closed}
use Rattle.config.proofs.line.is_right_at.Goals as goal

pub returns-then-l-gt-LONGEST_LINE : goal.returns-then-l-gt-LONGEST_LINE
returns-then-l-gt-LONGEST_LINE c =
    let a = c.args in
    due_line a.line a.l.now (sym c.in_range.ensures ∙ c.if-not-in_range.false) _ (line_too_long _ a.l.now c.if-l-gt-LONGEST_LINE.true)

pub returns-in-13 : goal.returns-in-13
returns-in-13 c =
    let a = c.args in
    let closed : ends_cr_lf a.l.now ≡ true = grind (arith, nat_tests, cr_lf_at) in
    due_line a.line a.l.now (sym c.in_range.ensures ∙ c.if-not-in_range.false) _ (line_closed _ a.l.now (omega arith) closed _ c.body_fits.ensures)

pub returns-in_default : goal.returns-in_default
returns-in_default c =
    let a = c.args in
    let open_line : ends_cr_lf a.l.now ≡ false = grind (arith, nat_tests, cr_lf_none) in
    due_line a.line a.l.now (sym c.in_range.ensures ∙ c.if-not-in_range.false) _ (line_open _ a.l.now open_line)

pub returns-in_default-2 : goal.returns-in_default-2
returns-in_default-2 c =
    let a = c.args in
    let open_line : ends_cr_lf a.l.now ≡ false = grind (arith, nat_tests, cr_lf_at) in
    due_line a.line a.l.now (sym c.in_range.ensures ∙ c.if-not-in_range.false) _ (line_open _ a.l.now open_line)

pub returns-in_default-3 : goal.returns-in_default-3
returns-in_default-3 c =
    let a = c.args in
    let open_line : ends_cr_lf a.l.now ≡ false = grind (arith, nat_tests, cr_lf_at) in
    due_line a.line a.l.now (sym c.in_range.ensures ∙ c.if-not-in_range.false) _ (line_open _ a.l.now open_line)
