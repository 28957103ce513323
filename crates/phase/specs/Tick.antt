-- One phase tick (01, 'One phase tick'; 02, E3 and E7), rule by rule.
use Rattle.std.specs.Prelude.{ℕ, ◌+◌, ◌-◌, ◌*◌, min, Bool, true, false, cond, ◌&&◌, List, [], ◌∷◌, ◌++◌, ltb, leb, eqb}
use Rattle.checks.specs.Checks.{Check, check, lowest}
use Rattle.curve.specs.Gain.{gain_of, loss_of}
use Rattle.curve.specs.Ratio.{ratio_of}
use Rattle.phase.specs.declared.operation.Kind.{Kind}
use Rattle.phase.specs.declared.operation.Kind.TheVariants.{Off, On}
use Rattle.phase.specs.declared.operation.ResetRule.TheVariants.{Iec, Ansi}
use Rattle.phase.specs.declared.operation.Timing.{Timing}
use Rattle.phase.specs.declared.operation.Timing.TheVariants.{Definite, Curve}
use Rattle.phase.specs.declared.settings.Settings.{Settings}
use Rattle.phase.specs.declared.state.PhaseState.{PhaseState}
use Rattle.phase.specs.declared.tick.Ticked.{Ticked}
use Rattle.phase.specs.Operation.{kind_of}
use Rattle.phase.specs.Refusals.{invalid_state}
use Rattle.phase.specs.Settings.{settings_checks, trip_level}
use Rattle.phase.specs.State.{run_limit, clear_state, valid}

-- "A sample g is any unsigned 32-bit number, in units of 0.01 % of rated current."

-- the gain and the loss of a tick with the sample g, at its ratio to the start current
abbrev pub gain_at : Settings → ℕ → ℕ
gain_at settings g = gain_of settings.operation (ratio_of g settings.start_current)

abbrev pub loss_at : Settings → ℕ → ℕ
loss_at settings g = loss_of settings.operation (ratio_of g settings.start_current)

-- 2. as E3 amends it: "a phase that was started on its last tick .. stays started while g is at least 95 x s; a phase that wasn't
-- still needs g greater than 100 x s." Which of them it is, its field tells (E7): "E3 reads that."
abbrev pub started_after : Bool → Settings → ℕ → Bool
started_after was settings g = cond was (leb (95 * settings.start_current) g) (ltb (100 * settings.start_current) g)

unfoldable pub started : Settings → PhaseState → ℕ → Bool
started settings state g = started_after state.started settings g

-- "goes up by 1 (stops at 60,000)", of run and of drop
abbrev pub count_up : ℕ → ℕ
count_up n = min (n + 1) run_limit

-- 3. "a curve's sum goes up by the gain (stops at the trip level)"; "Definite has no sum"
abbrev pub sum_up : Timing → Settings → ℕ → ℕ → ℕ
sum_up Definite settings g sum = 0
sum_up (Curve rule) settings g sum = min (sum + gain_at settings g) (trip_level settings)

-- 3. "Started: run goes up by 1 (stops at 60,000), drop becomes 0, a curve's sum goes up .."
abbrev pub after_started : Timing → Settings → ℕ → PhaseState → PhaseState
after_started timing settings g state =
    record { sum = sum_up timing settings g state.sum; run = count_up state.run; drop = 0; started = true }

-- what "becomes 0 once the new drop is at least the reset time, else it is kept"
abbrev pub kept_till : Settings → ℕ → ℕ → ℕ
kept_till settings new_drop n = cond (leb settings.reset_time new_drop) 0 n

-- 4. "IEC curves: sum becomes 0 once the new drop is at least the reset time, else it is kept.
-- ANSI curves: sum goes down by the loss (stops at 0). Definite has no sum."
abbrev pub sum_down : Timing → Settings → ℕ → ℕ → ℕ → ℕ
sum_down Definite settings g new_drop sum = 0
sum_down (Curve Iec) settings g new_drop sum = kept_till settings new_drop sum
sum_down (Curve Ansi) settings g new_drop sum = sum - loss_at settings g

-- 4. as E7 amends it: "for operation 1 the run is now kept while the new drop is below the reset time, else becomes 0; for curves
-- it still clears at once."
abbrev pub run_down : Timing → Settings → ℕ → ℕ → ℕ
run_down Definite settings new_drop run = kept_till settings new_drop run
run_down (Curve rule) settings new_drop run = 0

-- 4. "Not started: .. drop goes up by 1 (stops at 60,000). .."
abbrev pub after_idle : Timing → Settings → ℕ → PhaseState → PhaseState
after_idle timing settings g state =
    let new_drop : ℕ = count_up state.drop in
    record {
      sum = sum_down timing settings g new_drop state.sum;
      run = run_down timing settings new_drop state.run;
      drop = new_drop;
      started = false;
    }

-- 1. "Off: everything stays 0 and off.", else 3. or 4.
abbrev pub next_by : Kind → Bool → Settings → ℕ → PhaseState → PhaseState
next_by Off is_started settings g state = clear_state
next_by (On timing) true settings g state = after_started timing settings g state
next_by (On timing) false settings g state = after_idle timing settings g state

-- the state after a tick
unfoldable pub next_state : Settings → PhaseState → ℕ → PhaseState
next_state settings state g = next_by (kind_of settings.operation) (started settings state g) settings g state

-- the start output: 1., else 2.
abbrev pub start_by : Kind → Bool → Bool
start_by Off is_started = false
start_by (On timing) is_started = is_started

unfoldable pub phase_start : Settings → PhaseState → ℕ → Bool
phase_start settings state g = start_by (kind_of settings.operation) (started settings state g)

-- 5. "for Definite, run at least the definite delay; for a curve, sum at the trip level and run at least the minimum delay",
-- of the state after the tick, whose sum stops at the trip level
abbrev pub due : Timing → Settings → PhaseState → Bool
due Definite settings after = leb settings.definite_delay after.run
due (Curve rule) settings after = leb (trip_level settings) after.sum && leb settings.minimum_delay after.run

-- the trip output: 1., else 5. "Phase trip: started, start only is 0, and, .."
abbrev pub trip_by : Kind → Bool → Settings → PhaseState → Bool
trip_by Off is_started settings after = false
trip_by (On timing) is_started settings after = is_started && eqb settings.start_only 0 && due timing settings after

unfoldable pub phase_trip : Settings → PhaseState → ℕ → Bool
phase_trip settings state g =
    trip_by (kind_of settings.operation) (started settings state g) settings (next_state settings state g)

-- a call with settings and a state is refused by 1 to 8
abbrev pub phase_checks : Settings → PhaseState → List Check
phase_checks settings state = settings_checks settings ++ (check (valid settings state) invalid_state ∷ [])

unfoldable pub tick_refusal : Settings → PhaseState → ℕ
tick_refusal settings state = lowest (phase_checks settings state)

-- an accepted tick
abbrev pub tick_of : Settings → PhaseState → ℕ → Ticked
tick_of settings state g =
    record {
      refusal = 0;
      state = next_state settings state g;
      start = phase_start settings state g;
      trip = phase_trip settings state g;
    }

-- "A refusal returns its number, the state unchanged, all outputs off"
abbrev pub refused_tick : ℕ → PhaseState → Ticked
refused_tick refusal state = record { refusal = refusal; state = state; start = false; trip = false }

-- what a tick answers
unfoldable pub tick_answer : Settings → PhaseState → ℕ → Ticked
tick_answer settings state g =
    cond (eqb (tick_refusal settings state) 0) (tick_of settings state g) (refused_tick (tick_refusal settings state) state)
