-- Runs of many ticks: what the laws on timers are stated with.
use Prim.Native.Nat.{ℕ, zero, suc, ◌+◌}
use mathlib.Core.Bool.{Bool, true, false, ◌&&◌, ◌||◌}
use mathlib.Core.List.{List, [], ◌∷◌}
use mathlib.Core.Path.{◌≡◌}
use Rattle.timer.specs.Inputs.{input_of}
use Rattle.timer.specs.Timer.{set_delay_answer, hold_answer, reset_delay_answer, flip_flop_answer}
use Rattle.timer.specs.declared.answer.Timed.{Timed}
use Rattle.timer.specs.declared.inputs.Inputs.{Inputs}
use Rattle.timer.specs.declared.state.TimerState.{TimerState}

-- ---- a run

-- the outputs from a state on, tick by tick; each tick hands its state on to the next
unfoldable pub outputs : {I : Type 0} → (TimerState → I → Timed) → TimerState → List I → List Bool
outputs answer state [] = []
outputs answer state (inputs ∷ rest) = (answer state inputs).on ∷ outputs answer (answer state inputs).state rest

-- the state that the last tick leaves
unfoldable pub timer_after : {I : Type 0} → (TimerState → I → Timed) → TimerState → List I → TimerState
timer_after answer state [] = state
timer_after answer state (inputs ∷ rest) = timer_after answer (answer state inputs).state rest

-- 01, 'Class examples': "without reset"
unfoldable pub WithoutReset : List Inputs → Type 0
WithoutReset [] = Unit
WithoutReset (inputs ∷ rest) = (inputs.reset ≡ false) × WithoutReset rest

-- ---- the four timers, each by its delay

abbrev pub set_delay_by : ℕ → TimerState → Inputs → Timed
set_delay_by d state inputs = set_delay_answer state d inputs

abbrev pub hold_by : ℕ → TimerState → Inputs → Timed
hold_by d state inputs = hold_answer state d inputs

abbrev pub reset_delay_by : ℕ → TimerState → Inputs → Timed
reset_delay_by d state inputs = reset_delay_answer state d inputs

-- the set and trip inputs at one tick of the flip-flop
pub record SetTrip : Type 0 where
  pub set : Bool
  pub trip : Bool

-- without reset
abbrev pub flip_flop_by : ℕ → TimerState → SetTrip → Timed
flip_flop_by d state inputs = flip_flop_answer state d inputs.set inputs.trip false

-- ---- what is said of the inputs of a run

-- at each tick, what `said` says of the history that ends with it; the latest tick stands first in a history
unfoldable pub each_tick : {I : Type 0} → (List I → Bool) → List I → List I → List Bool
each_tick said earlier [] = []
each_tick said earlier (inputs ∷ rest) = said (inputs ∷ earlier) ∷ each_tick said (inputs ∷ earlier) rest

-- there are n ticks, and at the n latest the input was on
unfoldable pub latest_on : {I : Type 0} → (I → Bool) → ℕ → List I → Bool
latest_on input zero history = true
latest_on input (suc n) [] = false
latest_on input (suc n) (inputs ∷ earlier) = input inputs && latest_on input n earlier

-- at one of the n latest ticks the input was on
unfoldable pub one_of_latest_on : {I : Type 0} → (I → Bool) → ℕ → List I → Bool
one_of_latest_on input zero history = false
one_of_latest_on input (suc n) [] = false
one_of_latest_on input (suc n) (inputs ∷ earlier) = input inputs || one_of_latest_on input n earlier

-- at one of the ticks so far the set input was on for the (d + 1)-th time in a row, or the trip input was on
unfoldable pub latched_so_far : ℕ → List SetTrip → Bool
latched_so_far d [] = false
latched_so_far d (inputs ∷ earlier) =
    latched_so_far d earlier || (latest_on (λ i. i.set) (d + 1) (inputs ∷ earlier) || inputs.trip)

-- the input at the last tick, or the previous one where there is none
unfoldable pub last_input : Bool → List Inputs → Bool
last_input previous [] = previous
last_input previous (inputs ∷ rest) = last_input (input_of inputs) rest

-- off at each tick
unfoldable pub AllOff : List Inputs → Type 0
AllOff [] = Unit
AllOff (inputs ∷ rest) = (input_of inputs ≡ false) × AllOff rest

-- ---- what is said of outputs

-- on at each of these ticks
abbrev pub on_throughout : {I : Type 0} → List I → List Bool
on_throughout [] = []
on_throughout (inputs ∷ rest) = true ∷ on_throughout rest

-- on at the first n of these ticks, then off
unfoldable pub on_for_first : ℕ → List Inputs → List Bool
on_for_first n [] = []
on_for_first zero (inputs ∷ rest) = false ∷ on_for_first zero rest
on_for_first (suc n) (inputs ∷ rest) = true ∷ on_for_first n rest
