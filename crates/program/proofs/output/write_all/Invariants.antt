-- `program::output::write_all` meets its contract: what is counted is never more than there is.
-- Assumes nothing.
use Rattle.io.specs.Counts.{IsPrefixLen}
use Rattle.program.proofs.output.write_all.Given as goal

abbrev pub invariant-loop : goal.invariant-loop
invariant-loop g l = IsPrefixLen l.count l.bytes
