-- `curve::rounding::shift_and_subtract` meets its contract: by long division, a bit of the quotient in each round.
-- Assumes nothing.
use Rattle.curve.proofs.LongDivision.{Dividing}
use Rattle.curve.proofs.rounding.shift_and_subtract.Given as goal

abbrev pub invariant-loop-bit : goal.invariant-loop-bit
invariant-loop-bit l = Dividing l.n l.d l.part l.bit l.rest l.q

abbrev pub decreases-loop-bit : goal.decreases-loop-bit
decreases-loop-bit l = l.bit
