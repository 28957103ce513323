-- `explanations::explanation::put_phase` meets its contract: the reason, and the tick as it answers.
-- Assumes nothing.
use native.Mathlib.Omega.{arith}
use Rattle.explanations.specs.Explanation.{name_room}
use Rattle.text.proofs.PageLaws.{put_then, put_within}
use Rattle.explanations.proofs.explanation.put_phase.Goals as goal

pub returns-in-Ok : goal.returns-in-Ok
returns-in-Ok c =
    let name = put_within name_room c.words.ensures (omega (arith, c.requires.0)) in
    rw (← c.why.ensures.answer, c.in-Ok.is, ← c.tick.ensures, ← c.trip_level.ensures)
    (put_then (put_then name c.put_reason.ensures) c.put_numbers.ensures)
