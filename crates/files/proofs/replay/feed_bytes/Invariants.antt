-- `files::replay::feed_bytes` meets its contract: a turn of the loop is a line that is closed, and the rows that are run ahead after it.
-- Assumes nothing.
use Prim.Native.Nat.{◌-◌}
use lib.ListN.{length}
use Rattle.files.proofs.FeedLaws.{FeedTurn}
use Rattle.files.proofs.replay.feed_bytes.Given as goal

abbrev pub invariant-loop-i : goal.invariant-loop-i
invariant-loop-i l = FeedTurn (record { form = l.form; progress = l.initial.progress; cutter = l.initial.cutter }) l.portion l.initial.page l.i (record { form = l.form; progress = l.progress; cutter = l.cutter }) l.page

abbrev pub decreases-loop-i : goal.decreases-loop-i
decreases-loop-i l = length l.portion - l.i
