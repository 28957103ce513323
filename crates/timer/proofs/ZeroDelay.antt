-- What a delay of 0 does (01, 'Class examples').
-- Assumes nothing.
use mathlib.Core.Bool.{Bool, true, false, not, ◌&&◌, and-true, and-false}
use mathlib.Core.List.{List, [], ◌∷◌, map}
use mathlib.Core.Path.{◌≡◌, refl, ◌∙◌}
use Rattle.timer.specs.Inputs.{input_of}
use Rattle.timer.specs.Rules.{hold_rule}
use Rattle.timer.specs.State.{fresh_timer}
use Rattle.timer.specs.Timer.{timer_answer}
use Rattle.timer.specs.declared.answer.Timed.{Timed}
use Rattle.timer.specs.declared.inputs.Inputs.{Inputs}
use Rattle.timer.specs.declared.state.TimerState.{TimerState}
use Rattle.timer.proofs.Runs.{outputs, WithoutReset, set_delay_by, hold_by, latest_on, each_tick}
use Rattle.timer.proofs.SetDelayLaws.{set_delay_on_exactly_when_last_d+1_on}

abbrev OffAt0 : Timed → Type 0
OffAt0 timed = (timed.on ≡ false) × (timed.state.count ≡ 0)

hold_0_tick : (reset input : Bool) (state : TimerState) → state.count ≡ 0
    → OffAt0 (timer_answer reset state 0 (hold_rule 0 input state))
unfolding timer_answer
hold_0_tick true input state e = rw e (refl, refl)
hold_0_tick false input state e = rw (e, and-false (input && not state.previous)) (refl, refl)

hold_0_from : (state : TimerState) → state.count ≡ 0 → (ticks : List Inputs)
    → outputs (hold_by 0) state ticks ≡ map (λ inputs. false) ticks
unfolding outputs
hold_0_from state e [] = refl
hold_0_from state e (inputs ∷ rest) =
    let tick = hold_0_tick inputs.reset (input_of inputs) state e in
    rw (tick.0, hold_0_from (hold_by 0 state inputs).state tick.1 rest)

-- "From fresh and without reset, Hold with d 0 is never on", and with a reset it is off too
pub hold_0_never_on : (ticks : List Inputs) → outputs (hold_by 0) fresh_timer ticks ≡ map (λ inputs. false) ticks
hold_0_never_on ticks = hold_0_from fresh_timer refl ticks

latest_1_is_the_input : (earlier ticks : List Inputs) → each_tick (latest_on input_of 1) earlier ticks ≡ map input_of ticks
unfolding each_tick latest_on
latest_1_is_the_input earlier [] = refl
latest_1_is_the_input earlier (inputs ∷ rest) =
    rw (and-true (input_of inputs), latest_1_is_the_input (inputs ∷ earlier) rest)

-- "Set delay with d 0 copies the input"
pub set_delay_0_copies : (ticks : List Inputs) → WithoutReset ticks
    → outputs (set_delay_by 0) fresh_timer ticks ≡ map input_of ticks
set_delay_0_copies ticks none =
    set_delay_on_exactly_when_last_d+1_on 0 refl ticks none ∙ latest_1_is_the_input [] ticks
