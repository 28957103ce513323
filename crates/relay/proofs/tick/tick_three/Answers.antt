-- `relay::tick::tick_three` meets its contract.
-- Assumes nothing.
use Rattle.std.proofs.Common.{rules}
use Rattle.relay.specs.Tick.{next_relay, outputs_of}
use Rattle.relay.proofs.tick.tick_three.Goals as goal

pub returns : goal.returns
unfolding next_relay outputs_of
returns c = search rules
