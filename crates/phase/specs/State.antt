-- The phase state (01, 'One phase tick'; 02, E7): "State: sum, run, drop." and "a field for whether it was started", on its last
-- tick.
use Rattle.std.specs.Prelude.{ℕ, Bool, false, cond, not, ◌&&◌, ◌||◌, leb, ltb, eqb}
use Rattle.phase.specs.declared.operation.Kind.{Kind}
use Rattle.phase.specs.declared.operation.Kind.TheVariants.{Off, On}
use Rattle.phase.specs.declared.operation.Timing.TheVariants.{Definite, Curve}
use Rattle.phase.specs.declared.settings.Settings.{Settings}
use Rattle.phase.specs.declared.state.PhaseState.{PhaseState}
use Rattle.phase.specs.Operation.{kind_of}
use Rattle.phase.specs.Settings.{trip_level}

-- where run and drop stop: "(stops at 60,000)"
abbrev pub run_limit : ℕ
run_limit = 60000

-- "The clear state is all zero.", its field off
abbrev pub clear_state : PhaseState
clear_state = record { sum = 0; run = 0; drop = 0; started = false }

-- "run and drop at most 60,000"
abbrev pub valid_counts : PhaseState → Bool
valid_counts state = leb state.run run_limit && leb state.drop run_limit

-- "sum is 0 for Definite"; "for Definite, run and drop may both be above 0; on a started phase drop is 0 and run above 0"
abbrev pub valid_definite : PhaseState → Bool
valid_definite state = eqb state.sum 0 && (not state.started || (eqb state.drop 0 && ltb 0 state.run))

-- run and drop "not both above 0"; "for curves the field is on exactly when run is above 0"
abbrev pub valid_curve : PhaseState → Bool
valid_curve state =
    (eqb state.run 0 || eqb state.drop 0) && cond state.started (ltb 0 state.run) (eqb state.run 0)

-- "all three are 0 for Off", and "for Off it is off"
abbrev pub valid_off : PhaseState → Bool
valid_off state = eqb state.sum 0 && eqb state.run 0 && eqb state.drop 0 && not state.started

abbrev pub valid_for : Kind → PhaseState → Bool
valid_for Off state = valid_off state
valid_for (On Definite) state = valid_definite state
valid_for (On (Curve rule)) state = valid_curve state

-- "Valid: sum at most the trip level; .."
unfoldable pub valid : Settings → PhaseState → Bool
valid settings state =
    leb state.sum (trip_level settings) && valid_counts state && valid_for (kind_of settings.operation) state
