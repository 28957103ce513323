-- `steps::output::put_change` meets its contract: row and byte are short.
-- Assumes nothing.
use native.Mathlib.Omega.{arith}
use Rattle.text.proofs.PageLaws.{put_within}
use Rattle.steps.specs.Output.{change_room}
use Rattle.steps.proofs.OutputLaws.{change_short}
use Rattle.steps.proofs.output.put_change.Goals as goal

pub put_pair-requires : goal.put_pair-requires
put_pair-requires c = omega (arith, change_short c.args.row c.args.outputs (omega arith) (omega arith))

pub returns : goal.returns
returns c =
    put_within change_room c.put_pair.ensures (change_short c.args.row c.args.outputs (omega arith) (omega arith))
