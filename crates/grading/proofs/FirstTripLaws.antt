-- The first trip of a relay at a ratio of its setting, in closed form, and what it means.
-- Assumes nothing.
use Prim.Native.Nat.{ℕ, ◌+◌, ◌-◌, ◌/◌, ◌^◌, ◌≤◌, ◌<◌, max}
use native.Mathlib.Nat.{le_refl, le_trans, mul-le-mul_left, mul-le-mul_right}
use native.Mathlib.Omega.{arith}
use mathlib.Core.Bool.{true}
use mathlib.Core.Path.{◌≡◌, refl, sym, ◌∙◌, ap}
use borrow.Author.Tests.{eq-eqb, le-leb, lt-leb}
use Rattle.curve.specs.Gain.{gain_of}
use Rattle.curve.specs.Ratio.{ratio_of}
use Rattle.curve.specs.Rounding.{rounded_up}
use Rattle.curve.proofs.LeastGainLaws.{gain_above_0}
use Rattle.curve.proofs.RatioLaws.{ratio_between}
use Rattle.curve.proofs.RoundingLaws.{rounded_up_by_one_division, rounded_up_within}
use Rattle.phase.specs.declared.settings.Settings.{Settings}
use Rattle.phase.specs.Settings.{trip_level}
use Rattle.phase.specs.State.{clear_state}
use Rattle.phase.specs.Tick.{started}
use Rattle.phase.specs.Ticks.{trip_at, always}
use Rattle.phase.proofs.StartLaws.{starts_above}
use Rattle.phase.proofs.TripLaws.{curves_from_2}
use Rattle.jumps.specs.device.FirstTrip.{one_of, wait_for, first_full}
use Rattle.jumps.proofs.FirstOfLaws.{FirstAt}
use Rattle.jumps.proofs.FirstTrips.{first_trip_closed, trips_first_at}
use Rattle.grading.specs.FirstTrip.{sample_at, longest_wait, first_trip_at}
use Rattle.grading.specs.Margin.{lowest_ratio, highest_ratio}
use Rattle.grading.specs.device.Quick.{quick_trip}
use Rattle.grading.specs.device.Ready.{Trips}

-- ---- the closed form

-- the larger of the minimum delay and the level divided by the gain, rounded up, where that is one of n ticks
from_clear : (n level minimum ratio gain : ℕ) → 100 < ratio → 0 < gain → 0 < minimum → first_full n (wait_for minimum 0) level 0 ratio gain ≡ one_of n (max minimum (rounded_up level gain))
from_clear n level minimum ratio gain above some delay =
    let wait : wait_for minimum 0 ≡ minimum = omega arith in
    let whole : level - 0 ≡ level = omega arith in
    let turns : (level - 0 + (gain - 1)) / gain ≡ rounded_up level gain =
    ap (λ (n : ℕ). (n + (gain - 1)) / gain) whole ∙ rounded_up_by_one_division level gain some in
    rw (lt-leb ratio 100 above, wait, turns)

module _ (settings : Settings) (trips : Trips settings) (ratio : ℕ) (low : lowest_ratio ≤ ratio) (high : ratio ≤ highest_ratio) where
  above_0 : 0 < settings.start_current
  above_0 = le_trans (omega arith) trips.range.start_low

  -- the ratio of the sample is the one asked for
  own_ratio : ratio_of (sample_at settings ratio) settings.start_current ≡ ratio
  own_ratio =
      ratio_between (sample_at settings ratio) settings.start_current ratio high (le_refl (sample_at settings ratio)) (omega (arith, above_0))

  starts : started settings clear_state (sample_at settings ratio) ≡ true
  starts =
      starts_above settings clear_state (sample_at settings ratio)
      (omega (arith, mul-le-mul_right settings.start_current low, above_0))

  -- there is always a gain
  pub gains : 0 < gain_of settings.operation ratio
  gains = gain_above_0 settings.operation ratio trips.curve trips.range.operation low high

  -- and the level is full by the longest wait, at whatever gain
  within : quick_trip settings ratio ≤ longest_wait
  within =
      let level : trip_level settings ≤ longest_wait = mul-le-mul_right (10 ^ 9) trips.range.multiplier_high in
      let turns : rounded_up (trip_level settings) (gain_of settings.operation ratio) ≤ longest_wait =
      rounded_up_within longest_wait _ _ gains (le_trans level (mul-le-mul_left longest_wait gains)) in
      omega (arith, turns, trips.range.minimum_high)

  pub trip_by_gain : first_trip_at settings ratio ≡ quick_trip settings ratio
  unfolding first_trip_at
  trip_by_gain =
      let (rule, kind) = curves_from_2 settings.operation trips.curve trips.range.operation in
      first_trip_closed settings (sample_at settings ratio) longest_wait clear_state trips.range
      ∙ rw (kind, starts, eq-eqb _ 0 trips.off, own_ratio)
      (from_clear longest_wait (trip_level settings) settings.minimum_delay ratio (gain_of settings.operation ratio) low gains (omega (arith, trips.range.minimum_low)) ∙ rw (le-leb (quick_trip settings ratio) longest_wait within))

  -- by one division
  pub trip_by_turns : (gain level : ℕ) → gain ≡ gain_of settings.operation ratio → level ≡ trip_level settings → first_trip_at settings ratio ≡ max settings.minimum_delay ((level + (gain - 1)) / gain)
  trip_by_turns gain level e f = trip_by_gain ∙ rw (e, f, rounded_up_by_one_division _ _ gains)

  -- ---- what it means

  -- the trip is on at that tick, and at none before
  pub first_trip_is : FirstAt (trip_at settings clear_state (always (sample_at settings ratio))) longest_wait (first_trip_at settings ratio)
  unfolding first_trip_at
  first_trip_is =
      let some : 0 < first_trip_at settings ratio = rw trip_by_gain (omega (arith, trips.range.minimum_low)) in
      trips_first_at settings (sample_at settings ratio) longest_wait clear_state (first_trip_at settings ratio) some refl

-- ---- of its own setting

-- what a first trip goes by: no other setting, and not the start current
pub record SameCurve (settings others : Settings) : Type 0 where
  pub operation : settings.operation ≡ others.operation
  pub multiplier : settings.time_multiplier ≡ others.time_multiplier
  pub delay : settings.minimum_delay ≡ others.minimum_delay

pub same_first_trip : (settings others : Settings) → Trips settings → Trips others → SameCurve settings others → (ratio : ℕ) → lowest_ratio ≤ ratio → ratio ≤ highest_ratio → first_trip_at settings ratio ≡ first_trip_at others ratio
same_first_trip settings others trips trip same ratio low high =
    trip_by_gain settings trips ratio low high
    ∙ rw (same.operation, same.multiplier, same.delay) (sym (trip_by_gain others trip ratio low high))
