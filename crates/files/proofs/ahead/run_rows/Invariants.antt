-- `files::ahead::run_rows` meets its contract: each turn is a row more.
-- Assumes nothing.
use Rattle.files.specs.device.Ahead.{WayReady, RowsRan}
use lib.ListN.{length}
use Prim.Native.Nat.{◌-◌}
use Rattle.files.proofs.ahead.run_rows.Given as goal

abbrev pub invariant-loop-front : goal.invariant-loop-front
invariant-loop-front l = RowsRan l.planned.checked.settings l.fn.begun l.portion l.from l.initial.page l.page (record { reached = l.way; next = l.next }) × WayReady l.planned.checked.settings l.way

abbrev pub decreases-loop-front : goal.decreases-loop-front
decreases-loop-front l = length l.portion - l.next
