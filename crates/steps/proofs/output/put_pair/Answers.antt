-- `steps::output::put_pair` meets its contract: four pieces, one after the other.
-- Assumes nothing.
use native.Mathlib.Omega.{arith}
use Rattle.text.proofs.PageLaws.{put_then, put_within}
use Rattle.steps.proofs.OutputLaws.{pair_length}
use Rattle.steps.proofs.output.put_pair.Goals as goal

pub returns : goal.returns
returns c =
    let pair = put_then (put_then c.decimal.ensures (put_then c.words.ensures c.decimal-2.ensures)) c.words-2.ensures in
    put_within _ pair (omega (arith, pair_length c.args.a c.args.b))
