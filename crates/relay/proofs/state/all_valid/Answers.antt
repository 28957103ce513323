-- `relay::state::all_valid` meets its contract.
-- Assumes nothing.
use Rattle.relay.specs.State.{valid_relay}
use Rattle.relay.proofs.state.all_valid.Goals as goal

pub returns : goal.returns
unfolding valid_relay
returns c = rw (c.is_valid-l3.ensures, c.is_valid-l2.ensures, c.is_valid-l1.ensures)
