-- A tick by the plan is the document's tick.
-- Assumes nothing.
use Prim.Native.Nat.{ℕ, ◌+◌, ◌-◌, ◌*◌, ◌≤◌, ◌<◌, min}
use native.Mathlib.Nat.{sub-zero, zero-sub}
use native.Mathlib.Omega.{arith}
use mathlib.Core.Bool.{Bool, true, false, cond, ◌&&◌, and-false, false≢true}
use mathlib.Core.Path.{◌≡◌, refl, sym, ap, ◌∙◌}
use borrow.Author.Tests.{leb-true, leb-false, le-leb, lt-leb, lt-ltb, le-ltb, ltb-true, ltb-false}
use lib.Dec.{leb, ltb, eqb}
use Rattle.checks.proofs.Cases.{by_cond}
use Rattle.curve.proofs.GainLaws.{gain_at_most, no_loss_to_5}
use Rattle.phase.specs.declared.operation.Kind.{Kind}
use Rattle.phase.specs.declared.operation.Kind.TheVariants.{Off, On}
use Rattle.phase.specs.declared.operation.ResetRule.TheVariants.{Iec, Ansi}
use Rattle.phase.specs.declared.operation.Timing.{Timing}
use Rattle.phase.specs.declared.operation.Timing.TheVariants.{Definite, Curve}
use Rattle.phase.specs.declared.settings.Settings.{Settings}
use Rattle.phase.specs.declared.state.PhaseState.{PhaseState}
use Rattle.phase.specs.device.Ranges.{InRange, InLimits}
use Rattle.phase.specs.Operation.{kind_of}
use Rattle.phase.specs.State.{run_limit, clear_state, valid, valid_for}
use Rattle.phase.specs.Settings.{trip_level}
use Rattle.phase.specs.Tick.{gain_at, loss_at, started, count_up, after_started, after_idle, next_by, next_state, start_by, phase_start, due, trip_by, phase_trip}
use Rattle.phase.proofs.Accepted.{valid_in_limits, valid_kind}
use Rattle.phase.proofs.PaceLaws.{level_small}
use Rattle.phase.proofs.StateLaws.{definite_sum, off_is_clear}
use Rattle.plans.specs.declared.memo.Memo.{Memo}
use Rattle.plans.specs.declared.plan.Plan.{Plan}
use Rattle.plans.specs.declared.course.Course.{Course}
use Rattle.plans.specs.declared.course.Turned.{Turned}
use Rattle.plans.specs.device.Memo.{top_sample, memo_of}
use Rattle.plans.specs.device.Plan.{no_count, level_of, wait_of, on_plan, off_plan, plan_by, plan_of}
use Rattle.plans.specs.device.Course.{idle_up_to, course_by, TurnReady, count_to, after_started_by, after_idle_by, due_by, turn_by, turned_of}

-- ---- counts and thresholds

count_up_law : (n : ℕ) → n ≤ run_limit → count_to run_limit n ≡ count_up n
count_up_law n h =
    by_cond (λ (x : ℕ). x ≡ count_up n) (ltb n run_limit) (n + 1) n (λ t. let low = ltb-true n run_limit t in omega (arith, low)) (λ t. let high = ltb-false n run_limit t in omega (arith, h, high))

zero_leb : (n : ℕ) → leb 0 n ≡ true
zero_leb n = le-leb 0 n (omega arith)

above : (n g : ℕ) → 0 < n → ltb (n - 1) g ≡ leb n g
above n g pos =
    by_cond (λ (x : ℕ). ltb (n - 1) g ≡ leb n g) (leb n g) 0 0 (λ t. rw (t, lt-ltb (n - 1) g (omega (arith, leb-true n g t)))) (λ t. rw (t, le-ltb (n - 1) g (omega (arith, leb-false n g t))))

on_started : (timing : Timing) (settings : Settings) (state : PhaseState) (g : ℕ) → 0 < settings.start_current → ltb (idle_up_to (on_plan timing settings) state.started) g ≡ started settings state g
unfolding started
on_started timing settings state g pos = go state.started
  where
    go : (was : Bool) → ltb (cond was (95 * settings.start_current - 1) (100 * settings.start_current)) g ≡ cond was (leb (95 * settings.start_current) g) (ltb (100 * settings.start_current) g)
    go true = above (95 * settings.start_current) g (omega arith)
    go false = refl

off_idle : (was : Bool) (g : ℕ) → g ≤ top_sample → ltb (idle_up_to off_plan was) g ≡ false
off_idle true g h = le-ltb top_sample g h
off_idle false g h = le-ltb top_sample g h

-- ---- a started tick

after_started_law : (timing : Timing) (settings : Settings) (g : ℕ) (state : PhaseState) → state.run ≤ run_limit → after_started_by (on_plan timing settings) (gain_at settings g) state ≡ after_started timing settings g state
after_started_law Definite settings g state h =
    let sum : min (state.sum + gain_at settings g) 0 ≡ 0 = omega arith in
    rw (sum, count_up_law state.run h)
after_started_law (Curve rule) settings g state h = rw (count_up_law state.run h)

due_now : (timing : Timing) (settings : Settings) (after : PhaseState) → after.run ≤ run_limit → due_by (on_plan timing settings) after ≡ eqb settings.start_only 0 && due timing settings after
due_now timing settings after h = go timing (eqb settings.start_only 0)
  where
    never : leb no_count after.run ≡ false
    never = lt-leb no_count after.run (omega (arith, h))

    go : (timing : Timing) (trips : Bool) → leb (level_of timing settings) after.sum && leb (cond trips (wait_of timing settings) no_count) after.run ≡ trips && due timing settings after
    go Definite true = rw (zero_leb after.sum)
    go (Curve rule) true = refl
    go Definite false = rw (never, and-false (leb 0 after.sum))
    go (Curve rule) false = rw (never, and-false (leb (trip_level settings) after.sum))

-- ---- an idle tick

abbrev is_iec : Kind → Bool
is_iec Off = false
is_iec (On Definite) = false
is_iec (On (Curve Iec)) = true
is_iec (On (Curve Ansi)) = false

iec_low : (op : ℕ) → kind_of op ≡ On (Curve Iec) → op ≤ 5
unfolding kind_of
iec_low op e = leb-true op 5 (go (eqb op 0) (eqb op 1) (leb op 5) (leb op 12) (ap is_iec e))
  where
    go : (a b c d : Bool) → is_iec (cond a Off (cond b (On Definite) (cond c (On (Curve Iec)) (cond d (On (Curve Ansi)) Off)))) ≡ true → c ≡ true
    go true b c d t = absurd (false≢true t)
    go false true c d t = absurd (false≢true t)
    go false false true d t = refl
    go false false false true t = absurd (false≢true t)
    go false false false false t = absurd (false≢true t)

after_idle_law : (timing : Timing) (settings : Settings) (g : ℕ) (state : PhaseState) → kind_of settings.operation ≡ On timing → state.drop ≤ run_limit → valid_for (On timing) state ≡ true → after_idle_by (on_plan timing settings) (loss_at settings g) state ≡ after_idle timing settings g state
after_idle_law Definite settings g state kind h v =
    let new = count_up_law state.drop h in
    let never : leb no_count (count_up state.drop) ≡ false = lt-leb no_count (count_up state.drop) (omega arith) in
    rw (new, never, definite_sum state v, zero-sub (loss_at settings g))
after_idle_law (Curve Iec) settings g state kind h v =
    let none : loss_at settings g ≡ 0 = no_loss_to_5 settings.operation _ (iec_low settings.operation kind) in
    rw (none, sub-zero state.sum, count_up_law state.drop h, zero_leb (count_up state.drop))
after_idle_law (Curve Ansi) settings g state kind h v =
    let new = count_up_law state.drop h in
    let never : leb no_count (count_up state.drop) ≡ false = lt-leb no_count (count_up state.drop) (omega arith) in
    rw (new, never, zero_leb (count_up state.drop))

off_stays : (loss : ℕ) (state : PhaseState) → valid_for Off state ≡ true → after_idle_by off_plan loss state ≡ clear_state
off_stays loss state v =
    rw (off_is_clear state v, zero-sub loss)

-- ---- the tick

abbrev tick_by : Kind → Bool → Settings → PhaseState → ℕ → Turned
tick_by kind b settings state g =
    record {
      course = course_by (plan_by kind settings) settings (next_by kind b settings g state) g;
      start = start_by kind b;
      trip = trip_by kind b settings (next_by kind b settings g state);
    }

abbrev started_turn : Plan → Settings → ℕ → PhaseState → Bool → Turned
started_turn plan settings g after trip =
    record {
      course = record { state = after; memo = memo_of settings g; idle_to = plan.stays_above };
      start = true;
      trip = trip;
    }

on_turns : (timing : Timing) (b : Bool) (settings : Settings) (state : PhaseState) (g : ℕ) → kind_of settings.operation ≡ On timing → InLimits settings state → valid_for (On timing) state ≡ true → turn_by (on_plan timing settings) (memo_of settings g) b state ≡ tick_by (On timing) b settings state g
unfolding memo_of
on_turns timing true settings state g kind limits v =
    let plan : Plan = on_plan timing settings in
    let after : PhaseState = after_started timing settings g state in
    ap (λ (x : PhaseState). started_turn plan settings g x (due_by plan x)) (after_started_law timing settings g state limits.run)
    ∙ ap (started_turn plan settings g after) (due_now timing settings after (omega arith))
on_turns timing false settings state g kind limits v =
    rw (after_idle_law timing settings g state kind limits.drop v)

by_kind : (kind : Kind) (settings : Settings) (state : PhaseState) (g : ℕ) → kind_of settings.operation ≡ kind → 0 < settings.start_current → g ≤ top_sample → InLimits settings state → valid_for kind state ≡ true → turn_by (plan_by kind settings) (memo_of settings g) (ltb (idle_up_to (plan_by kind settings) state.started) g) state ≡ tick_by kind (started settings state g) settings state g
by_kind Off settings state g kind pos h limits v =
    rw (off_idle state.started g h, off_stays (memo_of settings g).loss state v)
by_kind (On timing) settings state g kind pos h limits v =
    rw (on_started timing settings state g pos) (on_turns timing (started settings state g) settings state g kind limits v)

plan_turns : (settings : Settings) (state : PhaseState) (g : ℕ) → 0 < settings.start_current → g ≤ top_sample → valid settings state ≡ true → turn_by (plan_of settings) (memo_of settings g) (ltb (idle_up_to (plan_of settings) state.started) g) state ≡ turned_of settings state g
unfolding plan_of next_state phase_start phase_trip
plan_turns settings state g pos h v =
    by_kind (kind_of settings.operation) settings state g refl pos h (valid_in_limits settings state v) (valid_kind settings state v)

-- the branch that the code takes
pub turned_by : (settings : Settings) (plan : Plan) (course : Course) (memo : Memo) (b : Bool) (g : ℕ) → InRange settings → plan ≡ plan_of settings → TurnReady settings course → g ≤ top_sample → memo ≡ memo_of settings g → ltb course.idle_to g ≡ b → turn_by plan memo b course.state ≡ turned_of settings course.state g
turned_by settings plan course memo b g range planned ready h m e =
    let state : PhaseState = course.state in
    ap (λ (x : Bool). turn_by plan memo x state) (sym e ∙ ap (λ (x : ℕ). ltb x g) ready.remembers.idle)
    ∙ ap (λ (x : Memo). turn_by plan x (ltb (idle_up_to (plan_of settings) state.started) g) state) m
    ∙ ap (λ (p : Plan). turn_by p (memo_of settings g) (ltb (idle_up_to (plan_of settings) state.started) g) state) planned
    ∙ plan_turns settings state g (omega (arith, range.start_low)) h ready.valid

-- ---- how large the numbers of a tick are

pub gain_within : (settings : Settings) (memo : Memo) (g : ℕ) → memo ≡ memo_of settings g → memo.gain ≤ 1000000000000
unfolding memo_of
gain_within settings memo g e = rw e (gain_at_most _ _)

pub state_within : (settings : Settings) (state : PhaseState) → InRange settings → valid settings state ≡ true → (state.sum ≤ 1500000000000) × (state.run ≤ run_limit) × (state.drop ≤ run_limit)
state_within settings state range v =
    let limits = valid_in_limits settings state v in
    (omega (arith, limits.sum, level_small settings range), limits.run, limits.drop)
