-- `jumps::first_trip::first_due` meets its contract: by cases on the group of operations.
-- Assumes nothing.
use mathlib.Core.Path.{◌∙◌, ap}
use Rattle.phase.specs.declared.operation.Kind.TheVariants.{On}
use Rattle.phase.proofs.PaceLaws.{curve_gains_from_101, own_gain}
use Rattle.jumps.proofs.first_trip.first_due.Goals as goal

pub first_full-requires-clause-some_gain : goal.first_full-requires-clause-some_gain
first_full-requires-clause-some_gain c above =
    let t = c.args.ticks in
    let settings = t.settings.settings in
    let kind = c.requires ∙ ap On c.in-Curve.is in
    rw (own_gain settings t.pace t.own_pace)
    (curve_gains_from_101 settings _ t.pace.sample t.settings.in_range kind (rw c.ratio_of-ratio.ensures at above))

pub returns-in-Curve : goal.returns-in-Curve
returns-in-Curve c =
    let t = c.args.ticks in
    rw c.in-Curve.is
    (rw (c.first_full.ensures, c.trip_level-level.ensures, c.ratio_of-ratio.ensures, c.wait_for-wait.ensures, own_gain t.settings.settings t.pace t.own_pace))
