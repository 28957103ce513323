-- A device of the code: the state after many equal ticks in closed form. `ticks_closed` of `proofs/` shows that it is the
-- walked definition.
use Rattle.std.specs.Prelude.{ℕ, ◌+◌, ◌-◌, ◌*◌, min, Bool, true, false}
use Rattle.phase.specs.declared.operation.Kind.{Kind}
use Rattle.phase.specs.declared.operation.Kind.TheVariants.{Off, On}
use Rattle.phase.specs.declared.operation.ResetRule.TheVariants.{Iec, Ansi}
use Rattle.phase.specs.declared.operation.Timing.{Timing}
use Rattle.phase.specs.declared.operation.Timing.TheVariants.{Definite, Curve}
use Rattle.phase.specs.declared.settings.Settings.{Settings}
use Rattle.phase.specs.declared.state.PhaseState.{PhaseState}
use Rattle.phase.specs.Operation.{kind_of}
use Rattle.phase.specs.Settings.{trip_level}
use Rattle.phase.specs.State.{run_limit, clear_state}
use Rattle.phase.specs.Tick.{gain_at, loss_at, started, kept_till, run_down}

-- ---- the state after n ticks, n above 0

abbrev pub count_after : ℕ → ℕ → ℕ
count_after n count = min (count + n) run_limit

abbrev pub sum_up_after : Timing → Settings → ℕ → ℕ → ℕ → ℕ
sum_up_after Definite settings g n sum = 0
sum_up_after (Curve rule) settings g n sum = min (sum + n * gain_at settings g) (trip_level settings)

abbrev pub sum_down_after : Timing → Settings → ℕ → ℕ → ℕ → ℕ → ℕ
sum_down_after Definite settings g n new_drop sum = 0
sum_down_after (Curve Iec) settings g n new_drop sum = kept_till settings new_drop sum
sum_down_after (Curve Ansi) settings g n new_drop sum = sum - n * loss_at settings g

abbrev pub advance_by : Kind → Bool → Settings → ℕ → ℕ → PhaseState → PhaseState
advance_by Off is_started settings g n state = clear_state
advance_by (On timing) true settings g n state =
    record { sum = sum_up_after timing settings g n state.sum; run = count_after n state.run; drop = 0; started = true }
advance_by (On timing) false settings g n state =
    let new_drop : ℕ = count_after n state.drop in
    record {
      sum = sum_down_after timing settings g n new_drop state.sum;
      run = run_down timing settings new_drop state.run;
      drop = new_drop;
      started = false;
    }

abbrev pub advanced : Settings → ℕ → ℕ → PhaseState → PhaseState
advanced settings g n state = advance_by (kind_of settings.operation) (started settings state g) settings g n state
