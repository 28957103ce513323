-- `records::status::read_status` meets its contract: from the last field to the first.
-- Assumes nothing.
use lib.ListN.{length}
use Prim.Native.Nat.{◌-◌}
use Rattle.records.proofs.StatusLaws.{StatusTurn}
use Rattle.records.proofs.status.read_status.Given as goal

abbrev pub invariant-loop-bit : goal.invariant-loop-bit
invariant-loop-bit l = StatusTurn l.fields (length l.fields - length l.yielded) l.byte
