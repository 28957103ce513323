-- `rows::front::read_field` meets its contract: a turn of the loop is a digit, and what is left gives the whole; the loop ends
-- at the width, or at a byte that is no digit.
-- Assumes nothing.
use Prim.Native.Nat.{◌-◌}
use Rattle.rows.proofs.FrontReading.{Reading}
use Rattle.rows.proofs.front.read_field.Given as goal

abbrev pub invariant-loop-end : goal.invariant-loop-end
invariant-loop-end l = Reading l.s l.at l.width l.end l.value

abbrev pub decreases-loop-end : goal.decreases-loop-end
decreases-loop-end l = l.stop - l.end
