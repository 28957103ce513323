-- `explanations::explanation::put_named` meets its contract: the word, then the number, which is no longer than its room.
-- Assumes nothing.
use native.Mathlib.Omega.{arith}
use Rattle.text.specs.Number.{decimal_room}
use Rattle.text.proofs.DecimalLaws.{decimal_length}
use Rattle.text.proofs.PageLaws.{put_then, put_within}
use Rattle.explanations.proofs.explanation.put_named.Goals as goal

pub decimal-requires : goal.decimal-requires
decimal-requires c = omega (arith, decimal_length 19 c.args.n)

pub returns : goal.returns
returns c = put_then c.words.ensures (put_within decimal_room c.decimal.ensures (omega (arith, decimal_length 19 c.args.n)))
