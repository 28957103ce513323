-- More current is never slower (02, E8): two runs of a phase from one state, each tick of the second with at least the current of the
-- first.
-- Assumes nothing.
use Prim.Native.Nat.{ℕ, zero, suc, ◌≤◌, ◌<◌}
use native.Mathlib.Nat.{le_refl, le_trans}
use native.Mathlib.Omega.{arith}
use mathlib.Core.Bool.{Bool, true, false, ◌&&◌, false≢true}
use mathlib.Core.Path.{◌≡◌, refl}
use borrow.Author.Tests.{leb-true, leb-false, le-leb}
use lib.Dec.{leb, eqb}
use Rattle.checks.proofs.Tests.{both_true}
use Rattle.curve.specs.Ratio.{ratio_of}
use Rattle.curve.proofs.OrderLaws.{gain_never_falls, loss_never_rises}
use Rattle.curve.proofs.RatioLaws.{ratio_at_most, ratio_never_falls}
use Rattle.phase.specs.declared.operation.Kind.{Kind}
use Rattle.phase.specs.declared.operation.Kind.TheVariants.{Off, On}
use Rattle.phase.specs.declared.operation.ResetRule.TheVariants.{Iec, Ansi}
use Rattle.phase.specs.declared.operation.Timing.{Timing}
use Rattle.phase.specs.declared.operation.Timing.TheVariants.{Definite, Curve}
use Rattle.phase.specs.declared.settings.Settings.{Settings}
use Rattle.phase.specs.declared.state.PhaseState.{PhaseState}
use Rattle.phase.specs.device.Ranges.{InRange, InLimits}
use Rattle.phase.specs.Operation.{kind_of}
use Rattle.phase.specs.Settings.{settings_refusal, trip_level}
use Rattle.phase.specs.State.{run_limit, valid}
use Rattle.phase.specs.Tick.{gain_at, loss_at, started, count_up, sum_up, kept_till, sum_down, run_down, next_by, next_state, due, trip_by, phase_trip}
use Rattle.phase.specs.Ticks.{phase_after, trip_at}
use Rattle.phase.proofs.Accepted.{settings_in_range, valid_in_limits}
use Rattle.phase.proofs.KeepsValid.{kept_within, ticks_keep_valid}
use Rattle.phase.proofs.StartLaws.{start_order}

-- ---- the statement

-- "at every tick the second's sum and run are at least the first's, and its phase trip is on wherever the first's is"
pub record NeverSlower (settings : Settings) (state : PhaseState) (first second : ℕ → ℕ) (ticks : ℕ) : Type 0 where
  pub sum : (k : ℕ) → k ≤ ticks → (phase_after settings state first k).sum ≤ (phase_after settings state second k).sum
  pub run : (k : ℕ) → k ≤ ticks → (phase_after settings state first k).run ≤ (phase_after settings state second k).run
  pub trip : (k : ℕ) → k ≤ ticks → trip_at settings state first k ≡ true → trip_at settings state second k ≡ true

-- ---- what goes on from tick to tick

-- of the states of both runs after as many ticks: the second keeps up with the first
record KeepsUp (first second : PhaseState) : Type 0 where
  sum : first.sum ≤ second.sum
  run : first.run ≤ second.run
  drop : second.drop ≤ first.drop
  started : first.started ≡ true → second.started ≡ true

-- a shorter drop keeps what a longer one does
kept_order : (settings : Settings) (d e a b : ℕ) → e ≤ d → a ≤ b → kept_till settings d a ≤ kept_till settings e b
kept_order settings d e a b shorter more = go (leb settings.reset_time d) (leb settings.reset_time e) refl refl
  where
    go : (s t : Bool) → leb settings.reset_time d ≡ s → leb settings.reset_time e ≡ t → kept_till settings d a ≤ kept_till settings e b
    go true t p q = rw p (omega arith)
    go false true p q = absurd (omega (arith, leb-false _ d p, leb-true _ e q))
    go false false p q = rw (p, q) more

-- a tick with the sample g of the first run, and one with h of the second
module _ (settings : Settings) (range : InRange settings) (g h : ℕ) (more : g ≤ h) where
  ratios : ratio_of g settings.start_current ≤ ratio_of h settings.start_current
  ratios = ratio_never_falls g h settings.start_current (le_trans (omega arith) range.start_low) more

  gains : gain_at settings g ≤ gain_at settings h
  gains = gain_never_falls settings.operation _ _ ratios (ratio_at_most h settings.start_current)

  losses : loss_at settings h ≤ loss_at settings g
  losses = loss_never_rises settings.operation _ _ ratios

  -- both started
  sum_up_order : (timing : Timing) (a b : ℕ) → a ≤ b → sum_up timing settings g a ≤ sum_up timing settings h b
  sum_up_order Definite a b less = omega arith
  sum_up_order (Curve rule) a b less = omega (arith, gains)

  -- both idle
  sum_down_order : (timing : Timing) (d e a b : ℕ) → e ≤ d → a ≤ b → sum_down timing settings g d a ≤ sum_down timing settings h e b
  sum_down_order Definite d e a b shorter less = omega arith
  sum_down_order (Curve Iec) d e a b shorter less = kept_order settings d e a b shorter less
  sum_down_order (Curve Ansi) d e a b shorter less = omega (arith, losses)

  run_down_order : (timing : Timing) (d e a b : ℕ) → e ≤ d → a ≤ b → run_down timing settings d a ≤ run_down timing settings e b
  run_down_order Definite d e a b shorter less = kept_order settings d e a b shorter less
  run_down_order (Curve rule) d e a b shorter less = omega arith

  -- the first idle, the second started
  sum_across : (timing : Timing) (d a b : ℕ) → a ≤ b → a ≤ trip_level settings → sum_down timing settings g d a ≤ sum_up timing settings h b
  sum_across Definite d a b less full = omega arith
  sum_across (Curve Iec) d a b less full = le_trans (kept_within settings d a a (le_refl a)) (omega arith)
  sum_across (Curve Ansi) d a b less full = omega arith

  run_across : (timing : Timing) (d a b : ℕ) → a ≤ b → a ≤ run_limit → run_down timing settings d a ≤ count_up b
  run_across Definite d a b less full = le_trans (kept_within settings d a a (le_refl a)) (omega arith)
  run_across (Curve rule) d a b less full = omega arith

  next_order : (kind : Kind) (b c : Bool) (first second : PhaseState) → (b ≡ true → c ≡ true) → InLimits settings first → KeepsUp first second → KeepsUp (next_by kind b settings g first) (next_by kind c settings h second)
  next_order Off b c first second on limits keeps =
      record { sum = omega arith; run = omega arith; drop = omega arith; started = λ e. e }
  next_order (On timing) true false first second on limits keeps = absurd (false≢true (on refl))
  next_order (On timing) true true first second on limits keeps =
      record {
        sum = sum_up_order timing first.sum second.sum keeps.sum;
        run = omega (arith, keeps.run);
        drop = omega arith;
        started = λ e. refl;
      }
  next_order (On timing) false true first second on limits keeps =
      record {
        sum = sum_across timing _ first.sum second.sum keeps.sum limits.sum;
        run = run_across timing _ first.run second.run keeps.run limits.run;
        drop = omega arith;
        started = λ e. refl;
      }
  next_order (On timing) false false first second on limits keeps =
      let shorter : count_up second.drop ≤ count_up first.drop = omega (arith, keeps.drop) in
      record {
        sum = sum_down_order timing _ _ first.sum second.sum shorter keeps.sum;
        run = run_down_order timing _ _ first.run second.run shorter keeps.run;
        drop = shorter;
        started = λ e. e;
      }

  due_order : (timing : Timing) (first second : PhaseState) → KeepsUp first second → due timing settings first ≡ true → due timing settings second ≡ true
  due_order Definite first second keeps e = le-leb _ _ (le_trans (leb-true _ _ e) keeps.run)
  due_order (Curve rule) first second keeps e =
      let (sum, run) = both_true (leb (trip_level settings) first.sum) (leb settings.minimum_delay first.run) e in
      rw (le-leb _ _ (le_trans (leb-true _ _ sum) keeps.sum), le-leb _ _ (le_trans (leb-true _ _ run) keeps.run))

  trip_order : (kind : Kind) (b c : Bool) (first second : PhaseState) → (b ≡ true → c ≡ true) → KeepsUp first second → trip_by kind b settings first ≡ true → trip_by kind c settings second ≡ true
  trip_order Off b c first second on keeps e = e
  trip_order (On timing) b c first second on keeps e =
      let (front, reached) = both_true (b && eqb settings.start_only 0) (due timing settings first) e in
      let (is_started, allowed) = both_true b (eqb settings.start_only 0) front in
      rw (on is_started, allowed, due_order timing first second keeps reached)

  module _ (first second : PhaseState) (keeps : KeepsUp first second) where
    starts : started settings first g ≡ true → started settings second h ≡ true
    unfolding started
    starts = start_order settings first.started second.started g h keeps.started more

    still_keeps_up : InLimits settings first → KeepsUp (next_state settings first g) (next_state settings second h)
    unfolding next_state
    still_keeps_up limits =
        next_order (kind_of settings.operation) (started settings first g) (started settings second h) first second starts limits keeps

    trips : InLimits settings first → phase_trip settings first g ≡ true → phase_trip settings second h ≡ true
    unfolding phase_trip
    trips limits =
        trip_order (kind_of settings.operation) (started settings first g) (started settings second h) (next_state settings first g) (next_state settings second h) starts (still_keeps_up limits)

-- ---- the two runs

-- "Take the same accepted settings and the same valid start state, and two sample sequences of one length, the second at least as large
-- as the first at every tick."
module _ (settings : Settings) (accepted : settings_refusal settings ≡ 0) (state : PhaseState) (v : valid settings state ≡ true) (first second : ℕ → ℕ) (ticks : ℕ) (more : (k : ℕ) → k < ticks → first k ≤ second k) where
  range : InRange settings
  range = settings_in_range settings accepted

  limits : (k : ℕ) → InLimits settings (phase_after settings state first k)
  limits k = valid_in_limits settings _ (ticks_keep_valid settings state first k v)

  always_keeps_up : (k : ℕ) → k ≤ ticks → KeepsUp (phase_after settings state first k) (phase_after settings state second k)
  unfolding phase_after
  always_keeps_up zero h = record { sum = le_refl _; run = le_refl _; drop = le_refl _; started = λ e. e }
  always_keeps_up (suc k) h =
      still_keeps_up settings range (first k) (second k) (more k h) _ _ (always_keeps_up k (omega arith)) (limits k)

  trips_too : (k : ℕ) → k ≤ ticks → trip_at settings state first k ≡ true → trip_at settings state second k ≡ true
  trips_too zero h e = e
  trips_too (suc k) h e = trips settings range (first k) (second k) (more k h) _ _ (always_keeps_up k (omega arith)) (limits k) e

  pub more_is_never_slower : NeverSlower settings state first second ticks
  more_is_never_slower =
      record { sum = λ k h. (always_keeps_up k h).sum; run = λ k h. (always_keeps_up k h).run; trip = trips_too }
