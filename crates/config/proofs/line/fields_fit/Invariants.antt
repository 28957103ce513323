-- `config::line::fields_fit` meets its contract: the fields that were passed are what they must be, and those from there on tell.
-- Assumes nothing.
use Rattle.config.proofs.LineLaws.{FieldsTurn}
use Rattle.config.proofs.line.fields_fit.Given as goal

abbrev pub invariant-loop-k : goal.invariant-loop-k
invariant-loop-k l = FieldsTurn l.s l.fields l.at l.k
