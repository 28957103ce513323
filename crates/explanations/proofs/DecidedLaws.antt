-- The explanation and the relay's decision on the same tick agree: the states told are those that the relay goes on with, and the
-- reasons tell its output byte.
-- Assumes nothing.
use Prim.Native.Nat.{ℕ, ◌≤◌}
use mathlib.Core.Bool.{true}
use mathlib.Core.Path.{◌≡◌, ◌∙◌}
use lib.Dec.{eqb}
use Rattle.phase.specs.declared.settings.Settings.{Settings}
use Rattle.phase.specs.declared.state.PhaseState.{PhaseState}
use Rattle.phase.specs.Settings.{settings_refusal}
use Rattle.phase.specs.State.{valid}
use Rattle.phase.specs.Tick.{next_state, phase_start, phase_trip}
use Rattle.relay.specs.declared.state.RelayState.{RelayState}
use Rattle.relay.specs.declared.tick.RelayTicked.{RelayTicked}
use Rattle.relay.specs.Outputs.{output_byte}
use Rattle.relay.specs.State.{phase_of, three, valid_relay}
use Rattle.relay.specs.Tick.{relay_tick_answer}
use Rattle.relay.proofs.RelayLaws.{each_valid, next_phases, outputs_of_phases, relay_tick_allowed, relay_tick_accepted}
use Rattle.why.specs.declared.reason.Reason.{Reason}
use Rattle.why.specs.Reason.{reason_of}
use Rattle.why.proofs.AnswerLaws.{why_allowed, start_only_bit}
use Rattle.why.proofs.ReasonLaws.{tells_start, tells_trip, TellsOutputs, reason_tells_outputs}

module _ (settings : Settings) (relay : RelayState) (l1 l2 l3 block : ℕ) where
  -- the reason of a phase, numbered from 0, at its sample
  abbrev reason_at : ℕ → ℕ → Reason
  reason_at i g = reason_of settings (phase_of relay i) g block

  abbrev next_at : ℕ → ℕ → PhaseState
  next_at i g = next_state settings (phase_of relay i) g

  -- by what a call of the relay's tick answers
  pub record AsDecided (ticked : RelayTicked) : Type 0 where
    pub states : ticked.state ≡ three (next_at 0 l1) (next_at 1 l2) (next_at 2 l3)
    pub outputs : ticked.outputs
        ≡ output_byte
        (tells_start (reason_at 0 l1))
        (tells_start (reason_at 1 l2))
        (tells_start (reason_at 2 l3))
        (tells_trip (reason_at 0 l1))
        (tells_trip (reason_at 1 l2))
        (tells_trip (reason_at 2 l3))
        block

  module _ (e : settings_refusal settings ≡ 0) (v : valid_relay settings relay ≡ true) (b : block ≤ 1) where
    tells : (i g : ℕ) → valid settings (phase_of relay i) ≡ true
        → TellsOutputs (reason_at i g) (phase_start settings (phase_of relay i) g) (phase_trip settings (phase_of relay i) g) (eqb block 1)
    tells i g is_valid =
        reason_tells_outputs settings (phase_of relay i) g block
        (start_only_bit settings (phase_of relay i) block (why_allowed settings (phase_of relay i) block e is_valid b))

    pub explained_as_decided : AsDecided (relay_tick_answer settings relay l1 l2 l3 block)
    explained_as_decided =
        let each = each_valid settings relay v in
        let first = tells 0 l1 each.l1 in
        let second = tells 1 l2 each.l2 in
        let third = tells 2 l3 each.l3 in
        rw (relay_tick_accepted settings relay l1 l2 l3 block (relay_tick_allowed settings relay block e v b))
        (record {
          states = next_phases settings relay l1 l2 l3;
          outputs =
              outputs_of_phases settings relay l1 l2 l3 block
              ∙ rw (first.start_told, second.start_told, third.start_told, first.trip_told, second.trip_told, third.trip_told);
        })
