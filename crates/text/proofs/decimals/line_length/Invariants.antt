-- `text::decimals::line_length` meets its contract: a turn of the loop is a field, and what is left gives the whole.
-- Assumes nothing.
use Rattle.text.proofs.DecimalsLaws.{FieldsCounted}
use Rattle.text.proofs.decimals.line_length.Given as goal

abbrev pub invariant-loop-n : goal.invariant-loop-n
invariant-loop-n l = FieldsCounted l.numbers l.n-index l.at
