-- A tick's checks stand in the order of their numbers, so the number given is the lowest that applies.
-- Assumes nothing.
use Prim.Native.Nat.{ℕ}
use mathlib.Core.Path.{refl}
use Rattle.checks.proofs.LowestLaws.{IsLowest, lowest_is_least}
use Rattle.phase.specs.declared.settings.Settings.{Settings}
use Rattle.relay.specs.declared.state.RelayState.{RelayState}
use Rattle.relay.specs.Tick.{relay_tick_checks, relay_tick_refusal}

pub relay_tick_refusal_lowest : (settings : Settings) (relay : RelayState) (block : ℕ) → IsLowest (relay_tick_refusal settings relay block) (relay_tick_checks settings relay block)
unfolding relay_tick_refusal
relay_tick_refusal_lowest settings relay block = lowest_is_least (relay_tick_checks settings relay block) refl
