-- `grading::refusal::pair_refusal` meets its contract.
-- Assumes nothing.
use mathlib.Core.Path.{sym}
use Rattle.grading.proofs.RefusalLaws.{refused_by_each}
use Rattle.grading.proofs.refusal.pair_refusal.Goals as goal

pub returns : goal.returns
returns c =
    let a = c.args in
    rw (c.lower_of.ensures, c.graded_first_failed-2.ensures, c.graded_first_failed.ensures)
    (sym (refused_by_each a.upstream a.downstream a.rest))
