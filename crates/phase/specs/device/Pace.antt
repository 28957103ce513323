-- A device of the code: what one sample does to a sum, worked out once.
use Rattle.std.specs.Prelude.{ℕ, ◌≡◌}
use Rattle.phase.specs.declared.pace.Pace.{Pace}
use Rattle.phase.specs.declared.settings.Settings.{Settings}
use Rattle.phase.specs.declared.state.PhaseState.{PhaseState}
use Rattle.phase.specs.Tick.{gain_at, loss_at}
use Rattle.phase.specs.device.Ranges.{InRange, InLimits}

unfoldable pub pace_of : Settings → ℕ → Pace
pace_of settings g = record { sample = g; gain = gain_at settings g; loss = loss_at settings g }

-- what a tick of accepted settings, of their pace and of a valid state may go by
pub record Ready (settings : Settings) (pace : Pace) (state : PhaseState) : Type 0 where
  pub range : InRange settings
  pub gain : pace.gain ≡ gain_at settings pace.sample
  pub loss : pace.loss ≡ loss_at settings pace.sample
  pub limits : InLimits settings state
