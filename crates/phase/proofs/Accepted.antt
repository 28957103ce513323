-- What an accepted tick tells of its arguments, and what it and a refused one answer.
-- Assumes nothing.
use Prim.Native.Nat.{ℕ}
use mathlib.Core.Bool.{true, ◌&&◌}
use mathlib.Core.List.{[], ◌∷◌}
use mathlib.Core.Path.{◌≡◌, refl, sym, ◌∙◌, ap}
use borrow.Author.Tests.{leb-true, eq-eqb, ne_eqb}
use lib.Dec.{leb}
use Rattle.checks.specs.Checks.{check, first_failed}
use Rattle.checks.proofs.PassedLaws.{all_passed, front_passed}
use Rattle.checks.proofs.Tests.{both_true, in_range_law}
use Rattle.phase.specs.declared.settings.Settings.{Settings}
use Rattle.phase.specs.declared.state.PhaseState.{PhaseState}
use Rattle.phase.specs.Operation.{kind_of}
use Rattle.phase.specs.Refusals.{invalid_state}
use Rattle.phase.specs.device.Pace.{pace_of, Ready}
use Rattle.phase.specs.Settings.{settings_checks, settings_refusal, trip_level}
use Rattle.phase.specs.device.Ranges.{InRange, InLimits}
use Rattle.phase.specs.State.{run_limit, valid, valid_counts, valid_for}
use Rattle.phase.specs.Tick.{phase_checks, tick_refusal, tick_of, refused_tick, tick_answer}

-- settings that pass the check, and what comes after them
pub settings_passed : (settings : Settings) (rest : ℕ) → first_failed (settings_checks settings) rest ≡ 0 → InRange settings × (rest ≡ 0)
settings_passed settings rest e =
    let (all, after) = all_passed (settings_checks settings) rest refl e in
    let (c1, (c2, (c3, (c4, (c5, (c6, (c7, none))))))) = all in
    let start = in_range_law 10 3000 settings.start_current c2 in
    let multiplier = in_range_law 5 1500 settings.time_multiplier c3 in
    let minimum = in_range_law 40 60000 settings.minimum_delay c4 in
    let definite = in_range_law 40 60000 settings.definite_delay c5 in
    let reset = in_range_law 60 60000 settings.reset_time c6 in (
      record {
        operation = (in_range_law 0 12 settings.operation c1).1;
        start_low = start.0;
        start_high = start.1;
        multiplier_low = multiplier.0;
        multiplier_high = multiplier.1;
        minimum_low = minimum.0;
        minimum_high = minimum.1;
        definite_low = definite.0;
        definite_high = definite.1;
        reset_low = reset.0;
        reset_high = reset.1;
        only = (in_range_law 0 1 settings.start_only c7).1;
      },
      after,
    )

pub accepted_settings : (settings : Settings) → settings_refusal settings ≡ 0 → first_failed (settings_checks settings) 0 ≡ 0
unfolding settings_refusal
accepted_settings settings e = e

pub settings_in_range : (settings : Settings) → settings_refusal settings ≡ 0 → InRange settings
settings_in_range settings e = (settings_passed settings 0 (accepted_settings settings e)).0

pub valid_in_limits : (settings : Settings) (state : PhaseState) → valid settings state ≡ true → InLimits settings state
unfolding valid
valid_in_limits settings state e =
    let (front, own) = both_true (leb state.sum (trip_level settings) && valid_counts state) (valid_for (kind_of settings.operation) state) e in
    let (sum, counts) = both_true (leb state.sum (trip_level settings)) (valid_counts state) front in
    let (run, drop) = both_true (leb state.run run_limit) (leb state.drop run_limit) counts in
    record {
      sum = leb-true state.sum (trip_level settings) sum;
      run = leb-true state.run run_limit run;
      drop = leb-true state.drop run_limit drop;
    }

pub valid_kind : (settings : Settings) (state : PhaseState) → valid settings state ≡ true → valid_for (kind_of settings.operation) state ≡ true
unfolding valid
valid_kind settings state e =
    (both_true (leb state.sum (trip_level settings) && valid_counts state) (valid_for (kind_of settings.operation) state) e).1

pub ready : (settings : Settings) (state : PhaseState) (g : ℕ) → InRange settings → valid settings state ≡ true → Ready settings (pace_of settings g) state
unfolding pace_of
ready settings state g range e =
    record { range = range; gain = refl; loss = refl; limits = valid_in_limits settings state e }

-- settings and a state that pass, and what comes after them
pub phase_passed : (settings : Settings) (state : PhaseState) (rest : ℕ) → first_failed (phase_checks settings state) rest ≡ 0 → InRange settings × (valid settings state ≡ true) × (rest ≡ 0)
phase_passed settings state rest e =
    let (range, others) = settings_passed settings _ e in
    let (own, after) = all_passed (check (valid settings state) invalid_state ∷ []) rest refl others in
    (range, own.0, after)

-- a tick is accepted where settings and state pass, whatever comes after them
pub phase_tick_accepted : (settings : Settings) (state : PhaseState) (rest : ℕ) → first_failed (phase_checks settings state) rest ≡ 0 → tick_refusal settings state ≡ 0
unfolding tick_refusal
phase_tick_accepted settings state rest e = front_passed (phase_checks settings state) rest refl e

-- accepted settings and a valid state pass
pub phase_allowed : (settings : Settings) (state : PhaseState) → settings_refusal settings ≡ 0 → valid settings state ≡ true → first_failed (phase_checks settings state) 0 ≡ 0
phase_allowed settings state e v = rw v (accepted_settings settings e)

-- an accepted tick
pub tick_passed : (settings : Settings) (state : PhaseState) → tick_refusal settings state ≡ 0 → InRange settings × (valid settings state ≡ true)
unfolding tick_refusal
tick_passed settings state e = let p = phase_passed settings state 0 e in (p.0, p.1)

-- ---- the answers

pub tick_accepted : (settings : Settings) (state : PhaseState) (g : ℕ) → tick_refusal settings state ≡ 0 → tick_answer settings state g ≡ tick_of settings state g
unfolding tick_answer
tick_accepted settings state g e = rw (eq-eqb _ 0 e)

pub tick_refused : (settings : Settings) (state : PhaseState) (g n : ℕ) → n ≡ tick_refusal settings state → (n ≡ 0 → ⊥) → tick_answer settings state g ≡ refused_tick n state
unfolding tick_answer
tick_refused settings state g n e h =
    rw (ne_eqb _ 0 (λ z. h (e ∙ z))) (ap (λ (k : ℕ). refused_tick k state) (sym e))
