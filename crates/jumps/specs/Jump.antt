-- The jump over many equal ticks: the ticks walked one by one.
use Rattle.std.specs.Prelude.{ℕ, zero, suc, Option, Some, None, Bool, cond, List, [], ◌∷◌, ◌++◌, leb, eqb}
use Rattle.checks.specs.Checks.{Check, check, lowest}
use Rattle.jumps.specs.declared.jump.Jumped.{Jumped}
use Rattle.phase.specs.declared.settings.Settings.{Settings}
use Rattle.phase.specs.declared.state.PhaseState.{PhaseState}
use Rattle.jumps.specs.Refusals.{jump_too_long}
use Rattle.phase.specs.Tick.{phase_checks}
use Rattle.phase.specs.Ticks.{trip_at, always, state_after}

-- the one found before, else the last where the test holds there
abbrev pub or_last : ℕ → ℕ → Bool → ℕ
or_last zero last holds = cond holds last 0
or_last (suc found) last holds = suc found

-- the first of 1, 2 .. n at which a test holds, or 0
unfoldable pub first_of : (ℕ → Bool) → ℕ → ℕ
first_of test zero = 0
first_of test (suc n) = or_last (first_of test n) (suc n) (test (suc n))

-- the first of n ticks with the phase trip on, or 0
unfoldable pub first_trip : Settings → ℕ → ℕ → PhaseState → ℕ
first_trip settings g n state = first_of (trip_at settings state (always g)) n

-- the answer's two cases: "trips at" a tick, or "has none"
abbrev pub trip_tick : ℕ → Option ℕ
trip_tick zero = None
trip_tick (suc k) = Some (suc k)

-- the number of each case: tick k is k, none is 0
unfoldable pub trip_number : Option ℕ → ℕ
trip_number (Some k) = k
trip_number None = 0

-- "a jump is over 3,600,000 ticks"
abbrev pub jump_limit : ℕ
jump_limit = 3600000

-- a jump is refused by 1 to 9
abbrev pub jump_checks : Settings → PhaseState → ℕ → List Check
jump_checks settings state count = phase_checks settings state ++ (check (leb count jump_limit) jump_too_long ∷ [])

unfoldable pub jump_refusal : Settings → PhaseState → ℕ → ℕ
jump_refusal settings state count = lowest (jump_checks settings state count)

-- an accepted jump
abbrev pub jump_of : Settings → PhaseState → ℕ → ℕ → Jumped
jump_of settings state g count =
    record { refusal = 0; state = state_after settings g count state; trip = trip_tick (first_trip settings g count state) }

-- "A refusal returns its number, the state unchanged, all outputs off (a jump: no trip tick)"
abbrev pub refused_jump : ℕ → PhaseState → Jumped
refused_jump refusal state = record { refusal = refusal; state = state; trip = None }

-- what a jump answers
unfoldable pub jump_answer : Settings → PhaseState → ℕ → ℕ → Jumped
jump_answer settings state g count =
    cond (eqb (jump_refusal settings state count) 0) (jump_of settings state g count)
    (refused_jump (jump_refusal settings state count) state)

-- the number of the trip tick that it answers: 0 where there is none, and where the jump is refused
unfoldable pub jump_number : Settings → PhaseState → ℕ → ℕ → ℕ
jump_number settings state g count = cond (eqb (jump_refusal settings state count) 0) (first_trip settings g count state) 0
