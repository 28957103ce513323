-- The first trip of a relay "at that ratio of its own setting" (02, E9).
use Rattle.std.specs.Prelude.{ℕ, ◌*◌, ◌^◌}
use Rattle.jumps.specs.Jump.{first_trip}
use Rattle.phase.specs.declared.settings.Settings.{Settings}
use Rattle.phase.specs.State.{clear_state}

-- the sample at a ratio of the setting
abbrev pub sample_at : Settings → ℕ → ℕ
sample_at settings ratio = ratio * settings.start_current

-- so many ticks fill the highest trip level even at a gain of 1
abbrev pub longest_wait : ℕ
longest_wait = 1500 * 10 ^ 9

-- "the first trip tick", of the walked ticks, "from clear"; 0 where there is none, which no relay that is graded has: `first_trip_is` of
-- `proofs/`
unfoldable pub first_trip_at : Settings → ℕ → ℕ
first_trip_at settings ratio = first_trip settings (sample_at settings ratio) longest_wait clear_state
