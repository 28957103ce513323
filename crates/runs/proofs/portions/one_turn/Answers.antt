-- `runs::portions::one_turn` meets its contract: the state is fed with the portion.
-- Assumes nothing.
use mathlib.Core.Path.{ap}
use Rattle.files.specs.declared.replay.Fed.{Fed}
use Rattle.runs.proofs.portions.one_turn.Goals as goal

pub returns : goal.returns
returns c = ap (λ (x : Fed). x.state) c.take_portion-fed.ensures.fed
