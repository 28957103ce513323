-- A valid state stays valid over a tick, and so over any number of them.
-- Assumes nothing.
use Prim.Native.Nat.{ℕ, zero, suc, ◌≤◌}
use native.Mathlib.Omega.{arith}
use mathlib.Core.Bool.{Bool, true, false, ◌&&◌, or-true}
use mathlib.Core.Path.{◌≡◌, refl}
use borrow.Author.Tests.{le-leb, lt-ltb}
use lib.Dec.{leb, ltb, eqb}
use Rattle.checks.proofs.Cases.{by_cond}
use Rattle.phase.specs.declared.operation.Kind.{Kind}
use Rattle.phase.specs.declared.operation.Kind.TheVariants.{Off, On}
use Rattle.phase.specs.declared.operation.ResetRule.TheVariants.{Iec, Ansi}
use Rattle.phase.specs.declared.operation.Timing.TheVariants.{Definite, Curve}
use Rattle.phase.specs.declared.settings.Settings.{Settings}
use Rattle.phase.specs.declared.state.PhaseState.{PhaseState}
use Rattle.phase.specs.device.Ranges.{InLimits}
use Rattle.phase.specs.Operation.{kind_of}
use Rattle.phase.specs.Settings.{trip_level}
use Rattle.phase.specs.State.{run_limit, clear_state, valid, valid_counts, valid_for}
use Rattle.phase.specs.Tick.{count_up, kept_till, started, next_by, next_state, tick_refusal}
use Rattle.phase.specs.Ticks.{phase_after, always, state_after}
use Rattle.phase.proofs.Accepted.{valid_in_limits, tick_passed}

abbrev valid_by : Settings → Kind → PhaseState → Bool
valid_by settings kind state = leb state.sum (trip_level settings) && valid_counts state && valid_for kind state

by_parts : (settings : Settings) (kind : Kind) (state : PhaseState) → InLimits settings state → valid_for kind state ≡ true → valid_by settings kind state ≡ true
by_parts settings kind state limits f =
    rw (le-leb state.sum (trip_level settings) limits.sum, le-leb state.run run_limit limits.run, le-leb state.drop run_limit limits.drop) f

-- ---- the limits after a tick, by the group of operations

pub kept_within : (settings : Settings) (new_drop n limit : ℕ) → n ≤ limit → kept_till settings new_drop n ≤ limit
kept_within settings new_drop n limit h =
    by_cond (λ k. k ≤ limit) (leb settings.reset_time new_drop) 0 n (λ t. omega arith) (λ t. h)

sum_within : (kind : Kind) (b : Bool) (settings : Settings) (g : ℕ) (state : PhaseState) → state.sum ≤ trip_level settings → (next_by kind b settings g state).sum ≤ trip_level settings
sum_within Off b settings g state h = omega arith
sum_within (On Definite) true settings g state h = omega arith
sum_within (On Definite) false settings g state h = omega arith
sum_within (On (Curve rule)) true settings g state h = omega arith
sum_within (On (Curve Iec)) false settings g state h =
    kept_within settings (count_up state.drop) state.sum (trip_level settings) h
sum_within (On (Curve Ansi)) false settings g state h = omega arith

run_within : (kind : Kind) (b : Bool) (settings : Settings) (g : ℕ) (state : PhaseState) → state.run ≤ run_limit → (next_by kind b settings g state).run ≤ run_limit
run_within Off b settings g state h = omega arith
run_within (On timing) true settings g state h = omega arith
run_within (On Definite) false settings g state h = kept_within settings (count_up state.drop) state.run run_limit h
run_within (On (Curve rule)) false settings g state h = omega arith

drop_within : (kind : Kind) (b : Bool) (settings : Settings) (g : ℕ) (state : PhaseState) → (next_by kind b settings g state).drop ≤ run_limit
drop_within Off b settings g state = omega arith
drop_within (On timing) true settings g state = omega arith
drop_within (On timing) false settings g state = omega arith

-- ---- what the group of operations asks

-- a started tick leaves run above 0
counts_above_0 : (run : ℕ) → ltb 0 (count_up run) ≡ true
counts_above_0 run = lt-ltb 0 (count_up run) (omega arith)

valid_after : (kind : Kind) (b : Bool) (settings : Settings) (g : ℕ) (state : PhaseState) → valid_for kind (next_by kind b settings g state) ≡ true
valid_after Off b settings g state = refl
valid_after (On Definite) true settings g state = counts_above_0 state.run
valid_after (On Definite) false settings g state = refl
valid_after (On (Curve rule)) true settings g state = rw (counts_above_0 state.run, or-true (eqb (count_up state.run) 0))
valid_after (On (Curve rule)) false settings g state = refl

zero_for : (kind : Kind) → valid_for kind clear_state ≡ true
zero_for Off = refl
zero_for (On Definite) = refl
zero_for (On (Curve rule)) = refl

pub clear_is_valid : (settings : Settings) → valid settings clear_state ≡ true
unfolding valid
clear_is_valid settings =
    let kind = kind_of settings.operation in
    by_parts settings kind clear_state (record { sum = omega arith; run = omega arith; drop = omega arith }) (zero_for kind)

pub tick_keeps_valid : (settings : Settings) (state : PhaseState) (g : ℕ) → valid settings state ≡ true → valid settings (next_state settings state g) ≡ true
unfolding valid next_state
tick_keeps_valid settings state g e =
    let kind = kind_of settings.operation in
    let b = started settings state g in
    let before = valid_in_limits settings state e in
    let limits : InLimits settings (next_by kind b settings g state) =
    record {
      sum = sum_within kind b settings g state before.sum;
      run = run_within kind b settings g state before.run;
      drop = drop_within kind b settings g state;
    } in
    by_parts settings kind (next_by kind b settings g state) limits (valid_after kind b settings g state)

pub ticks_keep_valid : (settings : Settings) (state : PhaseState) (sample : ℕ → ℕ) (n : ℕ) → valid settings state ≡ true → valid settings (phase_after settings state sample n) ≡ true
unfolding phase_after
ticks_keep_valid settings state sample zero e = e
ticks_keep_valid settings state sample (suc n) e =
    tick_keeps_valid settings (phase_after settings state sample n) (sample n) (ticks_keep_valid settings state sample n e)

-- so the tick after an accepted tick is accepted
pub ticks_keep_accepted : (settings : Settings) (g n : ℕ) (state : PhaseState) → tick_refusal settings state ≡ 0 → tick_refusal settings (state_after settings g n state) ≡ 0
unfolding tick_refusal
ticks_keep_accepted settings g n state e =
    let v = (tick_passed settings state e).1 in
    rw (ticks_keep_valid settings state (always g) n v) (rw v at e)
