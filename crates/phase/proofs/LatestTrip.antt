-- The latest trip: on any curve, with start only off, a phase held at a ratio of 101 or more trips (02, E10), and one held at 110 or more
-- within a tenth of the ticks (E8). These are walked ticks, and more of them than a jump has.
-- Assumes nothing.
use Prim.Native.Nat.{ℕ, zero, suc, ◌+◌, ◌-◌, ◌*◌, ◌^◌, ◌≤◌, ◌<◌, min}
use native.Mathlib.Nat.{le_refl, le_trans, lt_of_not-le, mul-le-mul_left, mul-le-mul_right, zero-add}
use native.Mathlib.Omega.{arith}
use mathlib.Core.Bool.{Bool, true, false, ◌&&◌}
use mathlib.Core.Path.{◌≡◌, refl, ◌∙◌}
use borrow.Author.Tests.{eq-eqb, le-leb, leb-true, leb-false, lt-leb}
use lib.Dec.{lit≤, lit<, leb}
use Rattle.checks.proofs.Tests.{leb_iff}
use Rattle.curve.specs.Ratio.{ratio_of}
use Rattle.curve.proofs.LeastGainLaws.{LeastFrom, least_gain, least_gain_from_110, least_gain_law, least_gain_from_110_law}
use Rattle.curve.proofs.RatioLaws.{ratio_at_most, ratio_between, ratio_reached}
use Rattle.phase.specs.declared.settings.Settings.{Settings}
use Rattle.phase.specs.declared.state.PhaseState.{PhaseState}
use Rattle.phase.specs.device.Ranges.{InRange}
use Rattle.phase.specs.Settings.{settings_refusal, trip_level}
use Rattle.phase.specs.State.{run_limit, clear_state, valid}
use Rattle.phase.specs.Tick.{gain_at, started}
use Rattle.phase.specs.Ticks.{trip_at, always}
use Rattle.phase.proofs.Accepted.{settings_in_range}
use Rattle.phase.proofs.PaceLaws.{level_small}
use Rattle.phase.proofs.StartLaws.{starts_above}
use Rattle.phase.proofs.TripLaws.{curves_from_2}
use Rattle.phase.proofs.TwoRuns.{more_is_never_slower}
use Rattle.phase.proofs.Walk.{trip_closed}

-- ---- the statement

-- accepted settings "with start only off and any curve operation"
pub record CurveTrips (settings : Settings) : Type 0 where
  pub accepted : settings_refusal settings ≡ 0
  pub off : settings.start_only ≡ 0
  pub curve : 2 ≤ settings.operation

-- at a ratio of `low` or more at each of n ticks
abbrev pub HeldFrom : ℕ → Settings → (ℕ → ℕ) → ℕ → Type 0
HeldFrom low settings sample n = (k : ℕ) → k < n → low ≤ ratio_of (sample k) settings.start_current

-- when a phase that is held at `low` or more trips, where `least` is the least gain there
pub record LatestTrip (low least tick : ℕ) : Type 0 where
  -- from any valid state: at every tick by which as many least gains fill the level
  pub trips : (settings : Settings) → CurveTrips settings → (state : PhaseState) → valid settings state ≡ true → (sample : ℕ → ℕ) (n : ℕ) → HeldFrom low settings sample n → trip_level settings ≤ n * least → trip_at settings state sample n ≡ true
  -- whatever the time multiplier: by `tick`, and from there on
  pub by_tick : (settings : Settings) → CurveTrips settings → (state : PhaseState) → valid settings state ≡ true → (sample : ℕ → ℕ) (n : ℕ) → HeldFrom low settings sample n → tick ≤ n → trip_at settings state sample n ≡ true
  -- IEC LongInv at `low` from clear: at those ticks alone
  pub exactly : (settings : Settings) → CurveTrips settings → settings.operation ≡ 5 → (g : ℕ) → ratio_of g settings.start_current ≡ low → (n : ℕ) → trip_at settings clear_state (always g) n ≡ leb (trip_level settings) (n * least)
  -- so at the highest multiplier first at `tick`
  pub exactly_by_tick : (settings : Settings) → CurveTrips settings → settings.operation ≡ 5 → settings.time_multiplier ≡ 1500 → (g : ℕ) → ratio_of g settings.start_current ≡ low → (n : ℕ) → trip_at settings clear_state (always g) n ≡ leb tick n

-- the first tick by which so many gains fill the level is no later than any other
no_sooner : (level gain tick n : ℕ) → (tick - 1) * gain < level → level ≤ n * gain → tick ≤ n
no_sooner level gain tick n short full =
    let before : tick < suc n =
    lt_of_not-le (λ h. absurd (let fewer : n * gain ≤ (tick - 1) * gain = mul-le-mul_right gain (omega arith) in omega arith)) in
    omega arith

-- of a gain that does not fill the lowest level within the longest minimum delay
module _ (low least : ℕ) (from_101 : 101 ≤ low) (to_2000 : low ≤ 2000) (gains : LeastFrom low least) (slow : 60000 * least < 5 * 10 ^ 9) where
  module _ (settings : Settings) (on : CurveTrips settings) where
    range : InRange settings
    range = settings_in_range settings on.accepted

    above_0 : 0 < settings.start_current
    above_0 = le_trans (omega arith) range.start_low

    waited : (n : ℕ) → trip_level settings ≤ n * least → 60000 < n
    waited n late =
        lt_of_not-le (λ h. absurd (omega (arith, slow, mul-le-mul_right least h, range.multiplier_low)))

    -- ---- one unchanged sample

    module _ (state : PhaseState) (g : ℕ) (held : low ≤ ratio_of g settings.start_current) where
      starts : started settings state g ≡ true
      starts =
          starts_above settings state g
          (omega (arith, ratio_reached g settings.start_current 101 above_0 (le_trans from_101 held), above_0))

      -- the trip of tick n + 1: so many gains come to the level, and so many ticks to the minimum delay
      trip_held : (n : ℕ) → trip_at settings state (always g) (suc n) ≡ leb (trip_level settings) (min (state.sum + suc n * gain_at settings g) (trip_level settings)) && leb settings.minimum_delay (min (state.run + suc n) run_limit)
      trip_held n =
          let (rule, kind) = curves_from_2 settings.operation on.curve range.operation in
          trip_closed settings g n state ∙ rw (kind, starts, eq-eqb _ 0 on.off)

      held_trips : (n : ℕ) → trip_level settings ≤ n * least → trip_at settings state (always g) n ≡ true
      held_trips zero late = absurd (omega (arith, waited zero late))
      held_trips (suc n) late =
          let gained : suc n * least ≤ suc n * gain_at settings g =
          mul-le-mul_left (suc n) (gains.every settings.operation _ on.curve range.operation held (ratio_at_most g settings.start_current)) in
          trip_held n
          ∙ rw (le-leb (trip_level settings) (min (state.sum + suc n * gain_at settings g) (trip_level settings)) (omega arith), le-leb settings.minimum_delay (min (state.run + suc n) run_limit) (omega (arith, waited (suc n) late, range.minimum_high)))

      -- and at no other tick, at just the least gain and from an empty sum
      not_before : gain_at settings g ≡ least → state.sum ≡ 0 → (n : ℕ) → n * least < trip_level settings → trip_at settings state (always g) n ≡ false
      not_before gain empty zero early = refl
      not_before gain empty (suc n) early =
          let short : state.sum + suc n * gain_at settings g < trip_level settings = rw (gain, empty, zero-add) early in
          trip_held n ∙ rw (lt-leb (trip_level settings) (min (state.sum + suc n * gain_at settings g) (trip_level settings)) (omega arith))

    just_then : settings.operation ≡ 5 → (g : ℕ) → ratio_of g settings.start_current ≡ low → (n : ℕ) → trip_at settings clear_state (always g) n ≡ leb (trip_level settings) (n * least)
    just_then op g at_low n = go (leb (trip_level settings) (n * least)) refl
      where
        held : low ≤ ratio_of g settings.start_current
        held = rw at_low (le_refl low)

        go : (b : Bool) → leb (trip_level settings) (n * least) ≡ b → trip_at settings clear_state (always g) n ≡ b
        go true e = held_trips clear_state g held n (leb-true (trip_level settings) (n * least) e)
        go false e =
            not_before clear_state g held (rw (op, at_low) gains.exactly) refl n (leb-false (trip_level settings) (n * least) e)

    -- ---- any samples

    -- they are never slower than the one whose ratio is just `low`
    samples_trip : (state : PhaseState) → valid settings state ≡ true → (sample : ℕ → ℕ) (n : ℕ) → HeldFrom low settings sample n → trip_level settings ≤ n * least → trip_at settings state sample n ≡ true
    samples_trip state v sample n held late =
        let s = settings.start_current in
        let at_low : ratio_of (low * s) s ≡ low = ratio_between (low * s) s low to_2000 (le_refl (low * s)) (omega (arith, above_0)) in
        (more_is_never_slower settings on.accepted state v (always (low * s)) sample n (λ k h. ratio_reached (sample k) s low above_0 (held k h))
        ).trip n (le_refl n) (held_trips state (low * s) (rw at_low (le_refl low)) n late)

  -- ---- by the tick at which so many least gains fill the highest level

  latest_from : (tick : ℕ) → 1500 * 10 ^ 9 ≤ tick * least → (tick - 1) * least < 1500 * 10 ^ 9 → LatestTrip low least tick
  latest_from tick fills short =
      let late : (n : ℕ) → tick ≤ n → 1500 * 10 ^ 9 ≤ n * least = λ n h. le_trans fills (mul-le-mul_right least h) in
      record {
        trips = samples_trip;
        by_tick = λ settings on state v sample n held h. samples_trip settings on state v sample n held (le_trans (level_small settings (range settings on)) (late n h));
        exactly = just_then;
        exactly_by_tick = λ settings on op highest g at_low n. just_then settings on op g at_low n ∙ rw highest (leb_iff _ (n * least) tick n (no_sooner _ least tick n short) (late n));
      }

-- E10: at 101 or more by tick 180,007,201
pub latest_trip : LatestTrip 101 least_gain 180007201
latest_trip = latest_from 101 least_gain (omega arith) (omega arith) least_gain_law (lit< tt) 180007201 (lit≤ tt) (lit< tt)

-- E8: "a phase held at m of 110 or more from clear has tripped by tick 18,000,073, and this is the exact tick for IEC LongInv at m 110 and
-- M 1500"; the clear state is a valid one, `clear_is_valid`
pub latest_trip_from_110 : LatestTrip 110 least_gain_from_110 18000073
latest_trip_from_110 =
    latest_from 110 least_gain_from_110 (omega arith) (omega arith) least_gain_from_110_law (lit< tt) 18000073 (lit≤ tt) (lit< tt)
