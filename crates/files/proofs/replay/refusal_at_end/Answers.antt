-- `files::replay::refusal_at_end` meets its contract.
-- Assumes nothing.
use mathlib.Core.Path.{ap, ◌∙◌}
use Rattle.steps.specs.Progress.{end_refusal}
use Rattle.files.proofs.replay.refusal_at_end.Goals as goal

pub returns : goal.returns
returns c = c.end_refusal.ensures ∙ ap end_refusal c.last_progress.ensures
