-- The reasons why a tick did or did not trip (02, E2), by the rules of the tick.
use Rattle.std.specs.Prelude.{ℕ, ◌-◌, Bool, true, false, cond, not, ◌&&◌, List, [], ◌∷◌, ltb, eqb}
use Rattle.phase.specs.declared.operation.Kind.{Kind}
use Rattle.phase.specs.declared.operation.Kind.TheVariants.{Off, On}
use Rattle.phase.specs.declared.operation.Timing.{Timing}
use Rattle.phase.specs.declared.operation.Timing.TheVariants.{Definite, Curve}
use Rattle.phase.specs.declared.settings.Settings.{Settings}
use Rattle.phase.specs.declared.state.PhaseState.{PhaseState}
use Rattle.phase.specs.Operation.{kind_of}
use Rattle.phase.specs.Settings.{trip_level}
use Rattle.phase.specs.Tick.{next_state, phase_start, phase_trip}
use Rattle.why.specs.declared.reason.Reason.{Reason}
use Rattle.why.specs.declared.reason.Reason.TheVariants.{OperationOff, NotStarted, StartOnly, TooFewTicks, SumBelowLevel, Blocked, Tripped}

-- ---- what is asked of settings and of the state after a tick

abbrev pub is_off : Kind → Bool
is_off Off = true
is_off (On timing) = false

-- the ticks running that a trip needs (01, rule 5): "for Definite, run at least the definite delay; for a curve, .. run at
-- least the minimum delay"
abbrev pub delay_of : Timing → Settings → ℕ
delay_of Definite settings = settings.definite_delay
delay_of (Curve rule) settings = settings.minimum_delay

-- Off never trips, whatever the ticks: no delay is looked at
abbrev pub delay_by : Kind → Settings → ℕ
delay_by Off settings = 0
delay_by (On timing) settings = delay_of timing settings

-- "too few ticks running (with how many are lacking)"
abbrev pub too_few_ticks : Settings → PhaseState → Bool
too_few_ticks settings after = ltb after.run (delay_by (kind_of settings.operation) settings)

abbrev pub ticks_lacking : Settings → PhaseState → ℕ
ticks_lacking settings after = delay_by (kind_of settings.operation) settings - after.run

-- "sum below the level (with how much is lacking)": only a curve has a sum
abbrev pub below_by : Kind → Settings → PhaseState → Bool
below_by Off settings after = false
below_by (On Definite) settings after = false
below_by (On (Curve rule)) settings after = ltb after.sum (trip_level settings)

abbrev pub sum_below_level : Settings → PhaseState → Bool
sum_below_level settings after = below_by (kind_of settings.operation) settings after

abbrev pub sum_lacking : Settings → PhaseState → ℕ
sum_lacking settings after = trip_level settings - after.sum

-- ---- the reasons

-- whether a reason is true, by a tick's start and trip outputs, the state after it, and the block. One that lacks something is
-- true with what is lacking, and with no other number.
abbrev pub holds_by : Settings → Bool → Bool → PhaseState → ℕ → Reason → Bool
holds_by settings start trip after block OperationOff = is_off (kind_of settings.operation)
holds_by settings start trip after block NotStarted = not start
holds_by settings start trip after block StartOnly = eqb settings.start_only 1
holds_by settings start trip after block (TooFewTicks n) = eqb n (ticks_lacking settings after) && too_few_ticks settings after
holds_by settings start trip after block (SumBelowLevel n) = eqb n (sum_lacking settings after) && sum_below_level settings after
holds_by settings start trip after block Blocked = trip && eqb block 1
holds_by settings start trip after block Tripped = trip

-- of the tick that settings, a state and a sample give
unfoldable pub holds : Settings → PhaseState → ℕ → ℕ → Reason → Bool
holds settings state g block reason =
    holds_by settings (phase_start settings state g) (phase_trip settings state g) (next_state settings state g) block reason

-- "in this order: operation off; not started; start only; too few ticks running ..; sum below the level ..; phase trip on but
-- general trip blocked; tripped", each with what is lacking in the state after the tick
abbrev pub reasons_for : Settings → PhaseState → List Reason
reasons_for settings after =
    OperationOff
    ∷ NotStarted
    ∷ StartOnly
    ∷ TooFewTicks (ticks_lacking settings after)
    ∷ SumBelowLevel (sum_lacking settings after)
    ∷ Blocked
    ∷ Tripped
    ∷ []

-- "the first reason that holds", else `last`
abbrev pub first_that : (Reason → Bool) → List Reason → Reason → Reason
first_that test [] last = last
first_that test (r ∷ rs) last = cond (test r) r (first_that test rs last)

-- WHY. One of the seven always holds: `reason_is_first` of `proofs/`
unfoldable pub reason_of : Settings → PhaseState → ℕ → ℕ → Reason
reason_of settings state g block =
    first_that (holds settings state g block) (reasons_for settings (next_state settings state g)) Tripped

-- ---- the numbers of a reason

-- its place in the order
abbrev pub place_of : Reason → ℕ
place_of OperationOff = 1
place_of NotStarted = 2
place_of StartOnly = 3
place_of (TooFewTicks n) = 4
place_of (SumBelowLevel n) = 5
place_of Blocked = 6
place_of Tripped = 7

-- what it says is lacking, 0 where nothing is
abbrev pub lacking_of : Reason → ℕ
lacking_of OperationOff = 0
lacking_of NotStarted = 0
lacking_of StartOnly = 0
lacking_of (TooFewTicks n) = n
lacking_of (SumBelowLevel n) = n
lacking_of Blocked = 0
lacking_of Tripped = 0
