-- `config::reader::take_bytes` meets its contract: a turn of the loop is a line that is closed.
-- Assumes nothing.
use Prim.Native.Nat.{◌-◌}
use lib.ListN.{length}
use Rattle.config.proofs.TakeLaws.{TakeTurn}
use Rattle.config.proofs.reader.take_bytes.Given as goal

abbrev pub invariant-loop-i : goal.invariant-loop-i
invariant-loop-i l = TakeTurn (record { reading = l.initial.reading; cutter = l.initial.cutter }) l.portion l.i (record { reading = l.reading; cutter = l.cutter })

abbrev pub decreases-loop-i : goal.decreases-loop-i
decreases-loop-i l = length l.portion - l.i
