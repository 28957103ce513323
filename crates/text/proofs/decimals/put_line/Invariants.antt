-- `text::decimals::put_line` meets its contract: a turn of the loop is a field, and what is left to write gives the whole.
-- Assumes nothing.
use Rattle.text.proofs.DecimalsLaws.{FieldsWritten}
use Rattle.text.proofs.decimals.put_line.Given as goal

abbrev pub invariant-loop-k : goal.invariant-loop-k
invariant-loop-k l = FieldsWritten l.initial.out l.numbers l.k l.at l.out
