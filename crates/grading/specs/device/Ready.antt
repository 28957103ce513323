-- A device of code and proof: what they go by of relays that are not refused (`pair_passed` of `proofs/`).
use Rattle.std.specs.Prelude.{◌≤◌, ◌≡◌}
use Rattle.phase.specs.declared.settings.Settings.{Settings}
use Rattle.phase.specs.device.Ranges.{InRange}

-- a curve that trips
pub record Trips (settings : Settings) : Type 0 where
  pub range : InRange settings
  pub curve : 2 ≤ settings.operation
  pub off : settings.start_only ≡ 0

pub record Pair (upstream downstream : Settings) : Type 0 where
  pub above : Trips upstream
  pub below : Trips downstream
