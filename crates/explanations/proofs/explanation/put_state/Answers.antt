-- `explanations::explanation::put_state` meets its contract: three pieces, one after the other.
-- Assumes nothing.
use Rattle.text.proofs.PageLaws.{put_then}
use Rattle.explanations.proofs.explanation.put_state.Goals as goal

pub returns : goal.returns
returns c = put_then (put_then c.put_named.ensures c.put_named-2.ensures) c.put_named-3.ensures
