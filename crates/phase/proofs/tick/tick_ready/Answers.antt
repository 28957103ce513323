-- `phase::tick::tick_ready` meets its contract: a tick is the closed form at a count of 1.
-- Assumes nothing.
use Rattle.phase.specs.device.Pace.{pace_of}
use Rattle.phase.specs.Tick.{phase_start, phase_trip}
use Rattle.phase.proofs.Walk.{next_closed}
use Rattle.phase.proofs.tick.tick_ready.Goals as goal

pub invariant_of-once : goal.invariant_of-once
unfolding pace_of
invariant_of-once c = record { own_pace = rw c.pace_of.ensures }

pub returns : goal.returns
unfolding pace_of phase_start phase_trip
returns c =
    let a = c.args in
    rw (c.trip_by.ensures, c.start_by.ensures, c.advance-after.ensures, c.pace_of.ensures, c.is_started-started.ensures, c.kind_of-kind.ensures, next_closed a.settings.settings a.g a.state)
