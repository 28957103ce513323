-- `explanations::explanation::put_reason` meets its contract: by the reason.
-- Assumes nothing.
use native.Mathlib.Omega.{arith}
use Rattle.explanations.specs.Explanation.{reason_room}
use Rattle.text.proofs.PageLaws.{put_within}
use Rattle.explanations.proofs.explanation.put_reason.Goals as goal

pub returns-in-NotStarted : goal.returns-in-NotStarted
returns-in-NotStarted c = rw c.in-NotStarted.is (put_within reason_room c.words-in-NotStarted.ensures (omega arith))

pub returns-in-SumBelowLevel : goal.returns-in-SumBelowLevel
returns-in-SumBelowLevel c =
    rw c.in-SumBelowLevel.is (put_within reason_room c.put_lacking-in-SumBelowLevel.ensures (omega arith))
