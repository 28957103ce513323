-- `text::number::decimal_length` meets its contract: one digit below ten, and then by powers of ten.
-- Assumes nothing.
use native.Mathlib.Omega.{arith}
use Rattle.text.proofs.DecimalLaws.{decimal_length_at}
use Rattle.text.proofs.number.decimal_length.Goals as goal

pub returns : goal.returns
returns c = omega (arith, decimal_length_at c.ilog10.result c.args.v (omega arith) (omega arith) (omega arith))
