-- `steps::output::put_end` meets its contract: the word, then the pair.
-- Assumes nothing.
use native.Mathlib.Omega.{arith}
use Rattle.text.proofs.PageLaws.{put_then, put_within}
use Rattle.steps.specs.Output.{end_room}
use Rattle.steps.proofs.OutputLaws.{end_short}
use Rattle.steps.proofs.output.put_end.Goals as goal

pub put_pair-requires : goal.put_pair-requires
put_pair-requires c = omega (arith, end_short c.args.done c.args.refusal (omega arith) (omega arith))

pub returns : goal.returns
returns c =
    let short = end_short c.args.done c.args.refusal (omega arith) (omega arith) in
    put_within end_room (put_then c.words.ensures c.put_pair.ensures) (omega (arith, short))
