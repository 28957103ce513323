-- `explanations::explanation::put_numbers` meets its contract: four pieces, one after the other.
-- Assumes nothing.
use Rattle.text.proofs.PageLaws.{put_then}
use Rattle.explanations.proofs.explanation.put_numbers.Goals as goal

pub returns : goal.returns
returns c = put_then (put_then (put_then c.put_named.ensures c.put_state.ensures) c.put_named-2.ensures) c.words.ensures
