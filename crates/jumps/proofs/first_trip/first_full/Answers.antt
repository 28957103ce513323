-- `jumps::first_trip::first_full` meets its contract: from 101 on there is a gain to divide by.
-- Assumes nothing.
use Prim.Native.Nat.{◌+◌, ◌-◌, ◌/◌, max}
use native.Mathlib.Omega.{arith}
use mathlib.Core.Path.{◌≡◌, ◌∙◌, ap}
use borrow.Author.Tests.{lt-leb}
use Rattle.jumps.specs.device.FirstTrip.{turns, one_of}
use Rattle.jumps.specs.Jump.{trip_tick}
use Rattle.jumps.proofs.FirstTrips.{rounded_up_is}
use Rattle.jumps.proofs.first_trip.first_full.Goals as goal

pub returns : goal.returns
returns c =
    let a = c.args in
    let full : c.div_ceil-turns.result ≡ turns a.level a.sum a.gain =
    c.div_ceil-turns.ensures ∙ rounded_up_is _ a.gain (c.requires.some_gain (omega arith)) ∙ ap (λ d. (d + (a.gain - 1)) / a.gain) c.saturating_sub.ensures in
    rw (lt-leb a.ratio 100 (omega arith))
    (c.one_of-2.ensures ∙ ap (λ k. trip_tick (one_of a.n k)) (c.max.ensures ∙ ap (max a.wait) full))
