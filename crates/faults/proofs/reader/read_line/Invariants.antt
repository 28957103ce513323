-- `faults::reader::read_line` meets its contract: a turn of the outer loop is a field, one of the inner a digit, and what is left
-- tells the fault of the whole.
-- Assumes nothing.
use Prim.Native.Nat.{◌-◌}
use lib.ListN.{length}
use Rattle.faults.proofs.ReadingLaws.{FieldRead}
use Rattle.faults.proofs.reader.read_line.Given as goal

abbrev pub invariant-loop-b : goal.invariant-loop-b
invariant-loop-b l = FieldRead l.widths l.s l.at l.k l.digits l.value l.numbers

abbrev pub decreases-loop-b : goal.decreases-loop-b
decreases-loop-b l = l.width - l.digits

abbrev pub invariant-fields : goal.invariant-fields
invariant-fields l = FieldRead l.widths l.s l.at l.k 0 0 l.numbers

abbrev pub decreases-fields : goal.decreases-fields
decreases-fields l = length l.widths - l.k
