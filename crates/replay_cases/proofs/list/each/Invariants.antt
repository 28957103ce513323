-- `replay_cases::list::each` is safe and ends: each case takes some of the list.
-- Assumes nothing.
use Rattle.std.proofs.Common.{length}
use Rattle.replay_cases.proofs.list.each.Given as goal

abbrev pub decreases-loop-name : goal.decreases-loop-name
decreases-loop-name l = length l.rest
