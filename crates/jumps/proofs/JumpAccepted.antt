-- What an accepted jump tells of its arguments, and what it and a refused one answer.
-- Assumes nothing.
use Prim.Native.Nat.{ℕ, ◌≤◌}
use mathlib.Core.Bool.{true}
use mathlib.Core.List.{[], ◌∷◌}
use mathlib.Core.Path.{◌≡◌, refl, sym, ◌∙◌, ap}
use borrow.Author.Tests.{leb-true, eq-eqb, ne_eqb}
use lib.Dec.{leb}
use Rattle.checks.specs.Checks.{check, first_failed, lowest}
use Rattle.checks.proofs.PassedLaws.{all_passed}
use Rattle.checks.proofs.LowestLaws.{IsLowest, lowest_is_least}
use Rattle.phase.specs.declared.settings.Settings.{Settings}
use Rattle.phase.specs.declared.state.PhaseState.{PhaseState}
use Rattle.phase.specs.device.Ranges.{InRange}
use Rattle.phase.specs.State.{valid}
use Rattle.phase.specs.Tick.{phase_checks, tick_refusal}
use Rattle.phase.proofs.Accepted.{phase_passed, phase_tick_accepted}
use Rattle.jumps.specs.Refusals.{jump_too_long}
use Rattle.jumps.specs.Jump.{jump_limit, jump_checks, jump_refusal, jump_of, refused_jump, jump_answer}

-- an accepted jump
pub jump_passed : (settings : Settings) (state : PhaseState) (count : ℕ) → jump_refusal settings state count ≡ 0 → InRange settings × (valid settings state ≡ true) × (count ≤ jump_limit)
unfolding jump_refusal
jump_passed settings state count e =
    let (range, is_valid, own) = phase_passed settings state _ e in
    (range, is_valid, leb-true count jump_limit (all_passed (check (leb count jump_limit) jump_too_long ∷ []) 0 refl own).0.0)

-- so a tick is accepted where a jump is
pub jump_tick_accepted : (settings : Settings) (state : PhaseState) (count : ℕ) → jump_refusal settings state count ≡ 0 → tick_refusal settings state ≡ 0
unfolding jump_refusal
jump_tick_accepted settings state count e =
    phase_tick_accepted settings state (lowest (check (leb count jump_limit) jump_too_long ∷ [])) e

-- the jump's refusal from that of its own check
pub jump_refusal_by_parts : (settings : Settings) (state : PhaseState) (count own all : ℕ) → own ≡ lowest (check (leb count jump_limit) jump_too_long ∷ []) → all ≡ first_failed (phase_checks settings state) own → all ≡ jump_refusal settings state count
unfolding jump_refusal
jump_refusal_by_parts settings state count own all e f = f ∙ ap (first_failed (phase_checks settings state)) e

-- its refusal is the lowest number that applies: its checks stand in the order of their numbers
pub jump_refusal_lowest : (settings : Settings) (state : PhaseState) (count : ℕ) → IsLowest (jump_refusal settings state count) (jump_checks settings state count)
unfolding jump_refusal
jump_refusal_lowest settings state count = lowest_is_least (jump_checks settings state count) refl

-- ---- the answers

pub jump_accepted : (settings : Settings) (state : PhaseState) (g count : ℕ) → jump_refusal settings state count ≡ 0 → jump_answer settings state g count ≡ jump_of settings state g count
unfolding jump_answer
jump_accepted settings state g count e = rw (eq-eqb _ 0 e)

pub jump_refused : (settings : Settings) (state : PhaseState) (g count n : ℕ) → n ≡ jump_refusal settings state count → (n ≡ 0 → ⊥) → jump_answer settings state g count ≡ refused_jump n state
unfolding jump_answer
jump_refused settings state g count n e h =
    rw (ne_eqb _ 0 (λ z. h (e ∙ z))) (ap (λ (k : ℕ). refused_jump k state) (sym e))
