-- `relay::step::step` meets its contract.
-- Assumes nothing.
use Rattle.std.proofs.Common.{rules}
use Rattle.relay.specs.Tick.{next_relay, outputs_of}
use Rattle.relay.proofs.RelayLaws.{turns_ready}
use Rattle.relay.proofs.step.step.Goals as goal

pub turn-a-requires : goal.turn-a-requires
turn-a-requires c = (turns_ready _ _ c.requires).l1

pub turn-b-requires : goal.turn-b-requires
turn-b-requires c = (turns_ready _ _ c.requires).l2

pub turn-c-requires : goal.turn-c-requires
turn-c-requires c = (turns_ready _ _ c.requires).l3

pub returns : goal.returns
unfolding next_relay outputs_of
returns c = search rules
