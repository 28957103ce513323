-- `runs::portions::run` meets its contract: each turn reaches a state from the one before.
-- Assumes nothing.
use Rattle.files.specs.Replay.{Reached}
use Rattle.runs.proofs.portions.run.Given as goal

abbrev pub invariant-loop : goal.invariant-loop
invariant-loop l = Reached l.initial.state l.state
