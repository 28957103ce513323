-- Ticks one after the other, and n equal ones in closed form.
-- Assumes nothing.
use Prim.Native.Nat.{ℕ, zero, suc, ◌+◌, ◌-◌, ◌*◌, ◌≤◌, ◌<◌, min}
use native.Mathlib.Nat.{not-suc-le-zero}
use native.Mathlib.Omega.{arith}
use mathlib.Core.Bool.{Bool, true, false, cond}
use mathlib.Core.Path.{◌≡◌, refl, ap, ◌∙◌}
use borrow.Author.Tests.{leb-true, le-leb}
use lib.Dec.{leb}
use Rattle.phase.specs.declared.operation.Kind.{Kind}
use Rattle.phase.specs.declared.operation.Kind.TheVariants.{Off, On}
use Rattle.phase.specs.declared.operation.ResetRule.TheVariants.{Iec, Ansi}
use Rattle.phase.specs.declared.operation.Timing.TheVariants.{Definite, Curve}
use Rattle.phase.specs.declared.settings.Settings.{Settings}
use Rattle.phase.specs.declared.state.PhaseState.{PhaseState}
use Rattle.phase.specs.device.Closed.{advance_by, advanced}
use Rattle.phase.specs.Operation.{kind_of}
use Rattle.phase.specs.State.{run_limit}
use Rattle.phase.specs.Tick.{started, kept_till, next_by, next_state, phase_start, phase_trip, trip_by}
use Rattle.phase.specs.Ticks.{phase_after, state_after}
use Rattle.phase.proofs.StartLaws.{start_stays, by_start}
use Rattle.phase.proofs.StateLaws.{same_state}

-- ---- one tick more

fill_again : (sum level gain n : ℕ) → min (min (sum + n * gain) level + gain) level ≡ min (sum + suc n * gain) level
fill_again sum level gain n = omega arith

drain_again : (sum loss n : ℕ) → sum - n * loss - loss ≡ sum - suc n * loss
drain_again sum loss n = omega arith

count_again : (count n : ℕ) → min (min (count + n) run_limit + 1) run_limit ≡ min (count + suc n) run_limit
count_again count n = omega arith

-- what was cleared stays so, since the drop never falls
clear_again : (reset d e n : ℕ) → d ≤ e → cond (leb reset e) 0 (cond (leb reset d) 0 n) ≡ cond (leb reset e) 0 n
clear_again reset d e n h = go (leb reset d) refl
  where
    go : (b : Bool) → leb reset d ≡ b → cond (leb reset e) 0 (cond b 0 n) ≡ cond (leb reset e) 0 n
    go false q = refl
    go true q = simp (le-leb reset e (omega (arith, leb-true reset d q)))

kept_again : (settings : Settings) (drop n kept : ℕ) → kept_till settings (min (min (drop + n) run_limit + 1) run_limit) (kept_till settings (min (drop + n) run_limit) kept) ≡ kept_till settings (min (drop + suc n) run_limit) kept
kept_again settings drop n kept =
    rw (count_again drop n) (clear_again settings.reset_time (min (drop + n) run_limit) (min (drop + suc n) run_limit) kept (omega arith))

once : (kind : Kind) (b : Bool) (settings : Settings) (g : ℕ) (state : PhaseState) → next_by kind b settings g state ≡ advance_by kind b settings g 1 state
once Off b settings g state = refl
once (On Definite) true settings g state = refl
once (On Definite) false settings g state = refl
once (On (Curve rule)) true settings g state = same_state (omega arith) refl refl refl
once (On (Curve Iec)) false settings g state = refl
once (On (Curve Ansi)) false settings g state = same_state (omega arith) refl refl refl

again : (kind : Kind) (b : Bool) (settings : Settings) (g n : ℕ) (state : PhaseState) → next_by kind b settings g (advance_by kind b settings g n state) ≡ advance_by kind b settings g (suc n) state
again Off b settings g n state = refl
again (On Definite) true settings g n state = same_state refl (count_again _ _) refl refl
again (On Definite) false settings g n state = same_state refl (kept_again settings state.drop n state.run) (count_again _ _) refl
again (On (Curve rule)) true settings g n state = same_state (fill_again _ _ _ _) (count_again _ _) refl refl
again (On (Curve Iec)) false settings g n state = same_state (kept_again settings state.drop n state.sum) refl (count_again _ _) refl
again (On (Curve Ansi)) false settings g n state = same_state (drain_again _ _ _) refl (count_again _ _) refl

-- ---- the walk

module _ (settings : Settings) (state : PhaseState) (sample : ℕ → ℕ) where
  pub phase_after_none : phase_after settings state sample 0 ≡ state
  unfolding phase_after
  phase_after_none = refl

  pub phase_after_next : (n : ℕ) → phase_after settings state sample (suc n) ≡ next_state settings (phase_after settings state sample n) (sample n)
  unfolding phase_after
  phase_after_next n = refl

from_one : (settings : Settings) (g n : ℕ) (state : PhaseState) → state_after settings g (suc n) state ≡ advanced settings g (suc n) state
unfolding phase_after next_state phase_start
from_one settings g zero state = once (kind_of settings.operation) (started settings state g) settings g state
from_one settings g (suc n) state =
    let kind = kind_of settings.operation in
    let b = started settings state g in
    let walked = state_after settings g (suc n) state in
    by_start (λ k x. next_by k x settings g walked) (λ x y. refl) kind (started settings walked g) b (start_stays settings g (suc n) state)
    ∙ ap (next_by kind b settings g) (from_one settings g n state)
    ∙ again kind b settings g (suc n) state

-- any number of ticks but none
pub ticks_closed : (settings : Settings) (g n : ℕ) (state : PhaseState) → 0 < n → state_after settings g n state ≡ advanced settings g n state
ticks_closed settings g zero state h = absurd (not-suc-le-zero h)
ticks_closed settings g (suc n) state h = from_one settings g n state

-- the trip of the tick after n others
pub trip_closed : (settings : Settings) (g n : ℕ) (state : PhaseState) → phase_trip settings (state_after settings g n state) g ≡ trip_by (kind_of settings.operation) (started settings state g) settings (advanced settings g (suc n) state)
unfolding phase_start phase_trip phase_after
trip_closed settings g n state =
    let kind = kind_of settings.operation in
    let b = started settings state g in
    let walked = state_after settings g n state in
    by_start (λ k x. trip_by k x settings (next_state settings walked g)) (λ x y. refl) kind (started settings walked g) b (start_stays settings g n state)
    ∙ ap (trip_by kind b settings) (from_one settings g n state)

pub next_closed : (settings : Settings) (g : ℕ) (state : PhaseState) → next_state settings state g ≡ advanced settings g 1 state
unfolding next_state
next_closed settings g state = once (kind_of settings.operation) (started settings state g) settings g state
