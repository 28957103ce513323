-- `grading::margin::margin_ready` meets its contract.
-- Assumes nothing.
use Rattle.grading.proofs.FirstTripLaws.{first_trip_is}
use Rattle.grading.proofs.MarginLaws.{margin_by_trips}
use Rattle.grading.proofs.margin.margin_ready.Goals as goal

pub difference-apart-requires : goal.difference-apart-requires
difference-apart-requires c =
    let a = c.args in
    let (low, high) = c.requires in
    (rw c.first_trip-above.ensures (first_trip_is a.upstream.settings a.upstream.trips a.ratio low high).high, rw c.first_trip-below.ensures (first_trip_is a.downstream.settings a.downstream.trips a.ratio low high).high)

pub returns : goal.returns
returns c =
    let a = c.args in
    let (low, high) = c.requires in
    margin_by_trips a.upstream.settings a.downstream.settings a.ratio _ _ _ c.first_trip-above.ensures c.first_trip-below.ensures
    (rw c.first_trip-above.ensures (first_trip_is a.upstream.settings a.upstream.trips a.ratio low high).high)
    (rw c.first_trip-below.ensures (first_trip_is a.downstream.settings a.downstream.trips a.ratio low high).high)
    c.difference-apart.ensures
