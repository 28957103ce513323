-- `explanations::explanation::put_lacking` meets its contract: two pieces, one after the other.
-- Assumes nothing.
use Rattle.text.proofs.PageLaws.{put_then}
use Rattle.explanations.proofs.explanation.put_lacking.Goals as goal

pub returns : goal.returns
returns c = put_then c.put_named.ensures c.words.ensures
