-- `phase::advance::EqualTicks::sum_down` meets its contract: a product that is cut off is over the sum.
-- Assumes nothing.
use native.Mathlib.Omega.{arith}
use mathlib.Core.Path.{◌≡◌}
use Rattle.phase.specs.declared.operation.ResetRule.TheVariants.{Ansi}
use Rattle.phase.proofs.PaceLaws.{own_loss}
use Rattle.phase.proofs.advance.EqualTicks.sum_down.Goals as goal

pub returns-in-Curve-Ansi : goal.returns-in-Curve-Ansi
returns-in-Curve-Ansi c =
    let s = c.args.self in
    let ansi : c.in-Curve-Ansi.field-0 ≡ Ansi = rw c.in-Curve-Ansi.is at c.in-Curve-Ansi.field-0-is in
    rw (c.in-Curve-Ansi.is, ansi, ← own_loss s.settings.settings s.pace s.own_pace) (omega arith)
