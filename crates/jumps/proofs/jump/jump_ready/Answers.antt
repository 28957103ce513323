-- `jumps::jump::jump_ready` meets its contract: the closed form is the walk.
-- Assumes nothing.
use native.Mathlib.Omega.{arith}
use mathlib.Core.Path.{refl}
use Rattle.jumps.proofs.FirstTrips.{first_trip_closed}
use Rattle.phase.proofs.Walk.{phase_after_none, ticks_closed}
use Rattle.jumps.specs.Jump.{first_of, first_trip}
use Rattle.jumps.proofs.jump.jump_ready.Goals as goal

pub returns-then-ticks-eq0 : goal.returns-then-ticks-eq0
unfolding first_of first_trip
returns-then-ticks-eq0 c = rw (c.if-ticks-eq0.true, phase_after_none) refl

pub returns : goal.returns
returns c =
    let t = c.args.ticks in
    let settings = t.settings.settings in
    let g = t.pace.sample in
    rw (c.first_trip.ensures, c.advance.ensures, c.kind_of-kind.ensures, ticks_closed settings g t.count t.state (omega arith), first_trip_closed settings g t.count t.state t.settings.in_range)
