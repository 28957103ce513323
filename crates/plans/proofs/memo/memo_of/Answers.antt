-- `plans::memo::memo_of` meets its contract.
-- Assumes nothing.
use Rattle.curve.proofs.RatioLaws.{ratio_at_most}
use Rattle.plans.specs.device.Memo.{memo_of}
use Rattle.plans.proofs.memo.memo_of.Goals as goal

pub memo_at-requires : goal.memo_at-requires
memo_at-requires c = rw c.ratio_of-ratio.ensures (ratio_at_most _ _)

pub returns : goal.returns
unfolding memo_of
returns c = rw (c.memo_at.ensures, c.loss_of-loss.ensures, c.gain_of-gain.ensures, c.ratio_of-ratio.ensures)
