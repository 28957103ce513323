-- `config::reader::number_due` meets its contract: by whether one of the thirteen lines is due.
-- Assumes nothing.
use mathlib.Core.Path.{sym, ap, ◌∙◌}
use native.Mathlib.Omega.{arith}
use Rattle.checks.proofs.Tests.{in_range_law}
use Rattle.config.specs.Shape.{Shape, line_count}
use Rattle.config.proofs.LineLaws.{number_due_here, number_due_after}
use Rattle.config.proofs.reader.number_due.Goals as goal

pub overflow_sub-line : goal.overflow_sub-line
overflow_sub-line c = (in_range_law 1 line_count c.args.line (sym c.in_range.ensures ∙ c.if-in_range.true)).0

pub shape_at-requires : goal.shape_at-requires
shape_at-requires c =
    let due = in_range_law 1 line_count c.args.line (sym c.in_range.ensures ∙ c.if-in_range.true) in
    omega (arith, due.0, due.1)

pub returns-then-in_range : goal.returns-then-in_range
returns-then-in_range c = ap (λ (x : Shape). x.number) c.shape_at.ensures ∙ sym (number_due_here c.args.line (sym c.in_range.ensures ∙ c.if-in_range.true))

pub returns-else-in_range : goal.returns-else-in_range
returns-else-in_range c = sym (number_due_after c.args.line (sym c.in_range.ensures ∙ c.if-in_range.false))
