-- A device of the code: the first trip at a ratio in closed form. `trip_by_gain` of `proofs/` shows that it is the walked one.
use Rattle.std.specs.Prelude.{ℕ, max}
use Rattle.curve.specs.Gain.{gain_of}
use Rattle.curve.specs.Rounding.{rounded_up}
use Rattle.phase.specs.declared.settings.Settings.{Settings}
use Rattle.phase.specs.Settings.{trip_level}

-- the larger of the minimum delay and the level divided by the gain, rounded up
abbrev pub quick_trip : Settings → ℕ → ℕ
quick_trip settings ratio =
    max settings.minimum_delay (rounded_up (trip_level settings) (gain_of settings.operation ratio))
