-- `files::replay::Replay::fresh` meets its contract.
-- Assumes nothing.
use Rattle.files.proofs.replay.Replay.fresh.Goals as goal

pub returns : goal.returns
returns c = cc
