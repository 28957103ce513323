-- A device of code and proof: what they go by of settings that the check accepts (`settings_passed` of `proofs/`), and of a valid
-- state (`valid_in_limits` there).
use Rattle.std.specs.Prelude.{◌≤◌}
use Rattle.phase.specs.declared.settings.Settings.{Settings}
use Rattle.phase.specs.declared.state.PhaseState.{PhaseState}
use Rattle.phase.specs.Settings.{trip_level}
use Rattle.phase.specs.State.{run_limit}

pub record InRange (settings : Settings) : Type 0 where
  pub operation : settings.operation ≤ 12
  pub start_low : 10 ≤ settings.start_current
  pub start_high : settings.start_current ≤ 3000
  pub multiplier_low : 5 ≤ settings.time_multiplier
  pub multiplier_high : settings.time_multiplier ≤ 1500
  pub minimum_low : 40 ≤ settings.minimum_delay
  pub minimum_high : settings.minimum_delay ≤ 60000
  pub definite_low : 40 ≤ settings.definite_delay
  pub definite_high : settings.definite_delay ≤ 60000
  pub reset_low : 60 ≤ settings.reset_time
  pub reset_high : settings.reset_time ≤ 60000
  pub only : settings.start_only ≤ 1

pub record InLimits (settings : Settings) (state : PhaseState) : Type 0 where
  pub sum : state.sum ≤ trip_level settings
  pub run : state.run ≤ run_limit
  pub drop : state.drop ≤ run_limit
