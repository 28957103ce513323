-- `runs::configuration::read_file` meets its contract: each portion that is read comes after those before it.
-- Assumes nothing.
use Rattle.runs.specs.Configuration.{ReaderReached}
use Rattle.runs.proofs.configuration.read_file.Given as goal

abbrev pub invariant-loop : goal.invariant-loop
invariant-loop l = ReaderReached l.reader
