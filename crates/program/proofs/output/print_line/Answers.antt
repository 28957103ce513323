-- `program::output::print_line` meets its contract: a line has no more room.
use Rattle.std.proofs.Common.{◌≤◌, subst}
use mathlib.Core.Path.{sym, ◌∙◌}
use Rattle.program.specs.declared.output.Line.{Line}
use Rattle.program.proofs.TextLaws.{line_at_least}
use Rattle.program.proofs.output.print_line.Goals as goal

pub returns-then-formatted : goal.returns-then-formatted
returns-then-formatted g c =
    λ taken.
    let text = c.into_inner-count in
    let most = subst (λ (x : Line). x.count ≤ 128) text.ensures text.result.within in
    let ok = sym c.is_ok-formatted.ensures.value ∙ c.if-formatted.true in
    line_at_least c.new-text.result c.write.new.self c.write.result (g.D.Display.output c.args.line) most c.new-text.ensures.plain ok c.write.ensures.writes
