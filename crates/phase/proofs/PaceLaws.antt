-- What a pace is of its settings and its sample, and how large the numbers of a tick are.
-- Assumes nothing.
use Prim.Native.Nat.{ℕ, ◌≤◌, ◌<◌}
use native.Mathlib.Omega.{arith}
use mathlib.Core.Path.{◌≡◌, ap}
use Rattle.curve.specs.Ratio.{ratio_of}
use Rattle.curve.proofs.LeastGainLaws.{gain_above_0}
use Rattle.curve.proofs.RatioLaws.{ratio_at_most}
use Rattle.phase.specs.declared.operation.Kind.TheVariants.{On}
use Rattle.phase.specs.declared.operation.ResetRule.{ResetRule}
use Rattle.phase.specs.declared.operation.Timing.TheVariants.{Curve}
use Rattle.phase.specs.declared.pace.Pace.{Pace}
use Rattle.phase.specs.declared.settings.Settings.{Settings}
use Rattle.phase.specs.device.Pace.{pace_of}
use Rattle.phase.specs.Operation.{kind_of}
use Rattle.phase.specs.Settings.{trip_level}
use Rattle.phase.specs.Tick.{gain_at, loss_at}
use Rattle.phase.specs.device.Ranges.{InRange}
use Rattle.phase.proofs.TripLaws.{curve_is_from_2}

module _ (settings : Settings) (pace : Pace) (own : pace ≡ pace_of settings pace.sample) where
  pub own_gain : pace.gain ≡ gain_at settings pace.sample
  unfolding pace_of
  own_gain = ap (λ (p : Pace). p.gain) own

  pub own_loss : pace.loss ≡ loss_at settings pace.sample
  unfolding pace_of
  own_loss = ap (λ (p : Pace). p.loss) own

pub level_small : (settings : Settings) → InRange settings → trip_level settings ≤ 1500000000000
level_small settings range = omega arith

-- from 101 on every curve gains (02, E10)
pub curve_gains_from_101 : (settings : Settings) (rule : ResetRule) (g : ℕ) → InRange settings → kind_of settings.operation ≡ On (Curve rule) → 100 < ratio_of g settings.start_current → 0 < gain_at settings g
curve_gains_from_101 settings rule g range kind above =
    gain_above_0 settings.operation _ (curve_is_from_2 settings.operation rule kind) range.operation above (ratio_at_most g settings.start_current)
