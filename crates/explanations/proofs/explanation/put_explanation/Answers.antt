-- `explanations::explanation::put_explanation` meets its contract: three lines, one after the other.
-- Assumes nothing.
use Rattle.explanations.specs.Explanation.{explanation}
use Rattle.text.proofs.PageLaws.{put_then}
use Rattle.explanations.proofs.explanation.put_explanation.Goals as goal

pub returns : goal.returns
unfolding explanation
returns c = put_then (put_then c.put_phase.ensures c.put_phase-2.ensures) c.put_phase-3.ensures
