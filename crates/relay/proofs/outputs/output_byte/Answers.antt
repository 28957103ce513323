-- `relay::outputs::output_byte` meets its contract.
-- Assumes nothing.
use Rattle.std.proofs.Common.{rules}
use Rattle.relay.specs.Outputs.{output_byte}
use Rattle.relay.proofs.outputs.output_byte.Goals as goal

pub returns : goal.returns
unfolding output_byte
returns c = search rules
