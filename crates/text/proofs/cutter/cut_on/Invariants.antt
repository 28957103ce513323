-- `text::cutter::cut_on` meets its contract: after each byte that is only held, the cutter answers what it answered at first.
-- Assumes nothing.
use Rattle.text.proofs.CutTurns.{CutTurn}
use Rattle.text.proofs.cutter.cut_on.Given as goal

abbrev pub invariant-loop-i : goal.invariant-loop-i
invariant-loop-i l = CutTurn l.closer l.limit l.fn.cutter l.portion l.from (record { held = l.held; count = l.count }) l.i
