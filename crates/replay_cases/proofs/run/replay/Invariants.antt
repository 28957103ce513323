-- `replay_cases::run::replay` meets its contract: what was written ends at `at`.
-- Assumes nothing.
use Rattle.std.proofs.Common.{◌≤◌, length}
use Rattle.replay_cases.proofs.run.replay.Given as goal

abbrev pub invariant-loop-piece : goal.invariant-loop-piece
invariant-loop-piece l =
    (goal.iterator-loop-piece).can_next l.piece-iterator × (goal.iterator-loop-piece).is_finite l.piece-iterator × (l.at ≤ length l.out)

abbrev pub invariant-loop-part : goal.invariant-loop-part
invariant-loop-part l = l.at ≤ length l.out
