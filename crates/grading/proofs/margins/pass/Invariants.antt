-- `grading::margins::pass` meets its contract: what was listed and the smallest so far, ratio by ratio.
-- Assumes nothing.
use Rattle.grading.specs.Margin.{difference_at}
use Rattle.grading.proofs.PassLaws.{PassTurn}
use Rattle.grading.proofs.margins.pass.Given as goal

abbrev pub invariant-loop-ratio : goal.invariant-loop-ratio
invariant-loop-ratio l =
    PassTurn (difference_at l.upstream.settings l.downstream.settings) l.wanted l.initial.list l.ratio l.count l.so_far l.list
