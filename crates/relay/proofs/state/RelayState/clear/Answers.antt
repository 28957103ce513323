-- `relay::state::RelayState::clear` meets its contract.
-- Assumes nothing.
use Rattle.relay.specs.State.{clear_relay}
use Rattle.relay.proofs.state.RelayState.clear.Goals as goal

pub returns : goal.returns
unfolding clear_relay
returns c = rw c.clear-clear.ensures
