-- The first of n equal ticks with the phase trip on: in closed form, and what it means.
-- Assumes nothing.
use Prim.Native.Nat.{ℕ, suc, ◌+◌, ◌-◌, ◌*◌, ◌/◌, ◌%◌, ◌≤◌, ◌<◌, min, max}
use native.Mathlib.Nat.{suc-mul, div-lt_iff_lt-mul, le-div_iff_mul-le, mul-zero}
use native.Mathlib.Omega.{arith}
use mathlib.Core.Bool.{Bool, true, false, cond, ◌&&◌}
use mathlib.Core.Path.{◌≡◌, refl, ◌∙◌}
use borrow.Author.Tests.{leb-true, leb-false, le-leb, lt-leb, ltb-true, ltb-false}
use lib.Dec.{leb, ltb, eqb}
use Rattle.std.proofs.lemmas.Grind.{div_ceil_times}
use Rattle.checks.proofs.Cases.{same_test}
use Rattle.checks.proofs.Tests.{both_true, leb_iff}
use Rattle.curve.specs.Ratio.{ratio_of}
use Rattle.curve.proofs.GainLaws.{gain_zero_to_100}
use Rattle.phase.specs.declared.operation.Kind.{Kind}
use Rattle.phase.specs.declared.operation.Kind.TheVariants.{Off, On}
use Rattle.phase.specs.declared.operation.Timing.{Timing}
use Rattle.phase.specs.declared.operation.Timing.TheVariants.{Definite, Curve}
use Rattle.phase.specs.declared.settings.Settings.{Settings}
use Rattle.phase.specs.declared.state.PhaseState.{PhaseState}
use Rattle.phase.specs.device.Closed.{advance_by}
use Rattle.jumps.specs.device.FirstTrip.{one_of, wait_for, turns, first_full, first_due, first_trip_by}
use Rattle.jumps.specs.Jump.{first_of, first_trip}
use Rattle.phase.specs.Operation.{kind_of}
use Rattle.phase.specs.Settings.{trip_level}
use Rattle.phase.specs.device.Ranges.{InRange}
use Rattle.phase.specs.State.{run_limit}
use Rattle.phase.specs.Tick.{gain_at, started, due, trip_by}
use Rattle.phase.specs.Ticks.{trip_at, always}
use Rattle.jumps.proofs.FirstOfLaws.{FirstAt, first_means, first_same, first_none, first_from}
use Rattle.phase.proofs.PaceLaws.{curve_gains_from_101}
use Rattle.phase.proofs.Walk.{trip_closed}

-- ---- tests

-- two tests joined are one test
both_iff : (a b c d m k : ℕ) → (a ≤ b → c ≤ d → m ≤ k) → (m ≤ k → a ≤ b) → (m ≤ k → c ≤ d) → leb a b && leb c d ≡ leb m k
both_iff a b c d m k f g h =
    same_test (leb a b && leb c d) (leb m k)
    (λ t. let (p, q) = both_true (leb a b) (leb c d) t in le-leb m k (f (leb-true a b p) (leb-true c d q)))
    (λ t. let e = leb-true m k t in rw (le-leb a b (g e), le-leb c d (h e)))

-- ---- from which tick on a sum is full

-- rounded up: one more where something is left over, as the sum with the divisor less 1 has it
pub rounded_up_is : (n d : ℕ) → 0 < d → n / d + min 1 (n % d) ≡ (n + (d - 1)) / d
rounded_up_is n d pos =
    let x = n / d + min 1 (n % d) in
    let (high, low) = div_ceil_times n d pos in
    let least : x ≤ (n + (d - 1)) / d = (le-div_iff_mul-le pos).1 (omega (arith, low)) in
    let most : (n + (d - 1)) / d < suc x = (div-lt_iff_lt-mul pos).1 (rw suc-mul (omega (arith, high))) in
    omega (arith, least, most)

turns_enough : (level sum gain k : ℕ) → 0 < gain → turns level sum gain ≤ k → level ≤ sum + k * gain
turns_enough level sum gain k pos h =
    let a : level - sum + (gain - 1) < suc k * gain = (div-lt_iff_lt-mul pos).0 (omega arith) in
    omega (arith, rw suc-mul at a)

turns_least : (level sum gain k : ℕ) → 0 < gain → level ≤ sum + k * gain → turns level sum gain ≤ k
turns_least level sum gain k pos h =
    let a : level - sum + (gain - 1) < suc k * gain = rw suc-mul (omega arith) in
    let b : turns level sum gain < suc k = (div-lt_iff_lt-mul pos).1 a in
    omega arith

-- the two tests of a curve's trip as one, at a gain above 0
full_test : (level sum gain run delay k : ℕ) → delay ≤ run_limit → 0 < gain → leb level (min (sum + suc k * gain) level) && leb delay (min (run + suc k) run_limit) ≡ leb (max (wait_for delay run) (turns level sum gain)) (suc k)
full_test level sum gain run delay k small pos =
    both_iff level (min (sum + suc k * gain) level) delay (min (run + suc k) run_limit) (max (wait_for delay run) (turns level sum gain)) (suc k)
    (λ a b. omega (arith, turns_least level sum gain (suc k) pos (omega arith)))
    (λ a. omega (arith, turns_enough level sum gain (suc k) pos (omega arith)))
    (λ a. omega arith)

-- and at a gain of 0: a sum below the level stays there, a full one waits for the delay alone
flat_never : (level sum run delay k : ℕ) → sum < level → leb level (min (sum + suc k * 0) level) && leb delay (min (run + suc k) run_limit) ≡ false
flat_never level sum run delay k h = rw (lt-leb level (min (sum + suc k * 0) level) (omega (arith, mul-zero (suc k))))

flat_test : (level sum run delay k : ℕ) → delay ≤ run_limit → level ≤ sum → leb level (min (sum + suc k * 0) level) && leb delay (min (run + suc k) run_limit) ≡ leb (wait_for delay run) (suc k)
flat_test level sum run delay k small full =
    both_iff level (min (sum + suc k * 0) level) delay (min (run + suc k) run_limit) (wait_for delay run) (suc k)
    (λ a b. omega arith)
    (λ a. omega (arith, mul-zero (suc k)))
    (λ a. omega arith)

-- ---- the first trip

delay_first : (delay run n : ℕ) → delay ≤ run_limit → first_of (λ (k : ℕ). leb delay (min (run + k) run_limit)) n ≡ one_of n (wait_for delay run)
delay_first delay run n small =
    first_from (λ (k : ℕ). leb delay (min (run + k) run_limit)) (wait_for delay run) n (omega arith)
    (λ k. leb_iff delay (min (run + suc k) run_limit) (wait_for delay run) (suc k) (λ a. omega arith) (λ a. omega arith))

full_first : (level sum ratio gain run delay n : ℕ) → delay ≤ run_limit → (ratio ≤ 100 → gain ≡ 0) → (100 < ratio → 0 < gain) → first_of (λ (k : ℕ). leb level (min (sum + k * gain) level) && leb delay (min (run + k) run_limit)) n ≡ first_full n (wait_for delay run) level sum ratio gain
full_first level sum ratio gain run delay n small none some = go (leb ratio 100) refl
  where
    standing : (b : Bool) → ltb sum level ≡ b → first_of (λ (k : ℕ). leb level (min (sum + k * 0) level) && leb delay (min (run + k) run_limit)) n ≡ cond b 0 (one_of n (wait_for delay run))
    standing true q = first_none _ n (λ k. flat_never level sum run delay k (ltb-true sum level q))
    standing false q = first_from _ _ n (omega arith) (λ k. flat_test level sum run delay k small (ltb-false sum level q))

    go : (b : Bool) → leb ratio 100 ≡ b → first_of (λ (k : ℕ). leb level (min (sum + k * gain) level) && leb delay (min (run + k) run_limit)) n ≡ cond b (cond (ltb sum level) 0 (one_of n (wait_for delay run))) (one_of n (max (wait_for delay run) (turns level sum gain)))
    go true q = rw (none (leb-true ratio 100 q)) (standing (ltb sum level) refl)
    go false q =
        first_from _ _ n (omega arith) (λ k. full_test level sum gain run delay k small (some (leb-false ratio 100 q)))

due_first : (timing : Timing) (settings : Settings) (g n : ℕ) (state : PhaseState) → InRange settings → kind_of settings.operation ≡ On timing → first_of (λ (k : ℕ). due timing settings (advance_by (On timing) true settings g k state)) n ≡ first_due timing settings g n state
due_first Definite settings g n state range kind =
    delay_first settings.definite_delay state.run n range.definite_high
due_first (Curve rule) settings g n state range kind =
    full_first (trip_level settings) state.sum (ratio_of g settings.start_current) (gain_at settings g) state.run settings.minimum_delay n range.minimum_high
    (gain_zero_to_100 settings.operation _)
    (curve_gains_from_101 settings rule g range kind)

trip_first : (kind : Kind) (b allowed : Bool) (settings : Settings) (g n : ℕ) (state : PhaseState) → InRange settings → kind_of settings.operation ≡ kind → eqb settings.start_only 0 ≡ allowed → first_of (λ (k : ℕ). trip_by kind b settings (advance_by kind b settings g k state)) n ≡ first_trip_by kind b settings g n state
trip_first Off b allowed settings g n state range own e = first_none _ n (λ k. refl)
trip_first (On timing) false allowed settings g n state range own e = first_none _ n (λ k. refl)
trip_first (On timing) true false settings g n state range own e = rw e (first_none _ n (λ k. refl))
trip_first (On timing) true true settings g n state range own e = rw e (due_first timing settings g n state range own)

pub first_trip_closed : (settings : Settings) (g n : ℕ) (state : PhaseState) → InRange settings → first_trip settings g n state ≡ first_trip_by (kind_of settings.operation) (started settings state g) settings g n state
unfolding first_trip
first_trip_closed settings g n state range =
    first_same _ _ n (λ k. trip_closed settings g k state)
    ∙ trip_first (kind_of settings.operation) (started settings state g) (eqb settings.start_only 0) settings g n state range refl refl

-- ---- what it means, for the crates above

module _ (settings : Settings) (g n : ℕ) (state : PhaseState) where
  pub trips_first_at : (t : ℕ) → 0 < t → first_trip settings g n state ≡ t → FirstAt (trip_at settings state (always g)) n t
  unfolding first_trip
  trips_first_at t low e = first_means (trip_at settings state (always g)) n t low e
