-- `grading::first_trip::first_trip` meets its contract, by the closed form.
-- Assumes nothing.
use mathlib.Core.Path.{sym, ◌∙◌, ap}
use Prim.Native.Nat.{◌<◌, max}
use Rattle.jumps.proofs.FirstTrips.{rounded_up_is}
use Rattle.grading.proofs.FirstTripLaws.{gains, trip_by_turns}
use Rattle.grading.proofs.first_trip.first_trip.Goals as goal

pub div_ceil-turns-requires : goal.div_ceil-turns-requires
div_ceil-turns-requires c =
    let (low, high) = c.requires in
    rw c.gain_of-gain.ensures (gains c.args.relay.settings c.args.relay.trips c.args.ratio low high)

pub returns : goal.returns
returns c =
    let (low, high) = c.requires in
    let relay = c.args.relay in
    let some : 0 < c.gain_of-gain.result = rw c.gain_of-gain.ensures (gains relay.settings relay.trips c.args.ratio low high) in
    c.max.ensures
    ∙ ap (max relay.settings.minimum_delay) (c.div_ceil-turns.ensures ∙ rounded_up_is _ _ some)
    ∙ sym (trip_by_turns relay.settings relay.trips c.args.ratio low high _ _ c.gain_of-gain.ensures c.trip_level.ensures)
