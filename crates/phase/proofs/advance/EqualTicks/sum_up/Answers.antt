-- `phase::advance::EqualTicks::sum_up` meets its contract: a product or a sum that is cut off is over the level.
-- Assumes nothing.
use native.Mathlib.Omega.{arith}
use Rattle.phase.proofs.PaceLaws.{own_gain}
use Rattle.phase.proofs.advance.EqualTicks.sum_up.Goals as goal

pub returns-in-Curve : goal.returns-in-Curve
returns-in-Curve c =
    let s = c.args.self in
    rw (c.in-Curve.is, ← own_gain s.settings.settings s.pace s.own_pace) (omega arith)
