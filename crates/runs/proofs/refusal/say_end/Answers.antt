-- `runs::refusal::say_end` is safe: the end line has room, and some bytes.
-- Assumes nothing.
use native.Mathlib.Omega.{arith}
use lib.ListN.{length-take}
use Rattle.steps.specs.Output.{end_room}
use Rattle.files.proofs.AnswerLaws.{finish_some}
use Rattle.runs.proofs.refusal.say_end.Goals as goal

pub slice_bounds-out-count : goal.slice_bounds-out-count
slice_bounds-out-count c =
    omega (arith, c.finish-w.ensures.written, finish_some c.args.state end_room (omega arith))

pub slice_bounds-say-length : goal.slice_bounds-say-length
slice_bounds-say-length c =
    simp length-take (omega (arith, c.finish-w.ensures.within))
