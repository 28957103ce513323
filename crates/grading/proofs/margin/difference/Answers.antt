-- `grading::margin::difference` meets its contract.
-- Assumes nothing.
use mir.Syntax.{w64}
use mir.ValLaws.{to_z-of_z}
use Rattle.grading.proofs.SignedLaws.{difference_fits, as_signed}
use Rattle.grading.proofs.margin.difference.Goals as goal

pub overflow_sub-result : goal.overflow_sub-result
overflow_sub-result c =
    let (above, below) = c.requires in
    rw (as_signed _ above, as_signed _ below) (search (difference_fits, above, below))

pub returns : goal.returns
returns c =
    let (above, below) = c.requires in
    rw (as_signed _ above, as_signed _ below) (to_z-of_z w64 _ (difference_fits _ _ above below))
