-- The drop-out at 95 % (02, E3 and E7): the field is the last tick's start; a larger current starts wherever a smaller one does (E8);
-- over equal samples a phase stays started, or stays idle; and with m at 100 or less a started one neither gains nor loses.
-- Assumes nothing.
use Prim.Native.Nat.{ℕ, zero, suc, ◌*◌, ◌≤◌, ◌<◌}
use native.Mathlib.Nat.{le_refl}
use native.Mathlib.Omega.{arith}
use mathlib.Core.Bool.{Bool, true, false, false≢true}
use mathlib.Core.Path.{◌≡◌, refl, sym, ap, ◌∙◌}
use borrow.Author.Tests.{le-leb, leb-true, lt-ltb, ltb-true}
use Rattle.checks.proofs.Cases.{not_both, not_true}
use Rattle.curve.proofs.GainLaws.{gain_zero_to_100}
use Rattle.curve.specs.Ratio.{ratio_of}
use Rattle.phase.specs.declared.operation.Kind.{Kind}
use Rattle.phase.specs.declared.operation.Kind.TheVariants.{Off, On}
use Rattle.phase.specs.declared.operation.Timing.{Timing}
use Rattle.phase.specs.declared.operation.Timing.TheVariants.{Definite, Curve}
use Rattle.phase.specs.declared.settings.Settings.{Settings}
use Rattle.phase.specs.declared.state.PhaseState.{PhaseState}
use Rattle.phase.specs.Operation.{kind_of}
use Rattle.phase.specs.Settings.{trip_level}
use Rattle.phase.specs.State.{valid, valid_for}
use Rattle.phase.specs.Tick.{gain_at, started_after, started, next_by, next_state, start_by, phase_start}
use Rattle.phase.specs.Ticks.{phase_after, state_after}
use Rattle.phase.proofs.Accepted.{valid_in_limits, valid_kind}
use Rattle.phase.proofs.StateLaws.{definite_sum}

-- ---- the field

field_by : (kind : Kind) (b : Bool) (settings : Settings) (g : ℕ) (state : PhaseState) → (next_by kind b settings g state).started ≡ start_by kind b
field_by Off b settings g state = refl
field_by (On timing) true settings g state = refl
field_by (On timing) false settings g state = refl

-- every tick sets it to its own start
pub field_is_start : (settings : Settings) (state : PhaseState) (g : ℕ) → (next_state settings state g).started ≡ phase_start settings state g
unfolding next_state phase_start
field_is_start settings state g = field_by (kind_of settings.operation) (started settings state g) settings g state

-- ---- the order of starts

-- of two phases, the second with no smaller sample and started before wherever the first was: it is started wherever the first is
pub start_order : (settings : Settings) (first second : Bool) (g h : ℕ) → (first ≡ true → second ≡ true) → g ≤ h → started_after first settings g ≡ true → started_after second settings h ≡ true
start_order settings true true g h on more e = le-leb _ h (omega (arith, leb-true _ g e))
start_order settings true false g h on more e = absurd (false≢true (on refl))
start_order settings false true g h on more e = le-leb _ h (omega (arith, ltb-true _ g e))
start_order settings false false g h on more e = lt-ltb _ h (omega (arith, ltb-true _ g e))

-- above the setting any phase is started, whatever its field
pub starts_above : (settings : Settings) (state : PhaseState) (g : ℕ) → 100 * settings.start_current < g → started settings state g ≡ true
unfolding started
starts_above settings state g above =
    start_order settings false state.started g g (λ on. absurd (false≢true on)) (le_refl g) (lt-ltb _ g above)

-- ---- equal samples

-- a started tick puts the field on, an idle one off: with the same sample the next tick is as this one
on_again : (timing : Timing) (b : Bool) (settings : Settings) (g : ℕ) (state : PhaseState) → started settings state g ≡ b → started settings (next_by (On timing) b settings g state) g ≡ b
unfolding started
on_again timing true settings g state e = start_order settings state.started true g g (λ on. refl) (le_refl g) e
on_again timing false settings g state e =
    not_true _ (λ t. not_both _ (starts_above settings state g (ltb-true _ g t)) e)

start_again : (kind : Kind) (settings : Settings) (g : ℕ) (state : PhaseState) → start_by kind (started settings (next_by kind (started settings state g) settings g state) g) ≡ start_by kind (started settings state g)
start_again Off settings g state = refl
start_again (On timing) settings g state = on_again timing (started settings state g) settings g state refl

-- of any settings and any state: Off starts at no tick, whatever its field
pub start_stays : (settings : Settings) (g n : ℕ) (state : PhaseState) → phase_start settings (state_after settings g n state) g ≡ phase_start settings state g
unfolding phase_start phase_after next_state
start_stays settings g zero state = refl
start_stays settings g (suc n) state =
    start_again (kind_of settings.operation) settings g (state_after settings g n state) ∙ start_stays settings g n state

-- what goes by the operation and by whether it is started, and for Off by the operation alone, goes by the start output
pub by_start : {A : Type 0} (f : Kind → Bool → A) → ((b c : Bool) → f Off b ≡ f Off c) → (kind : Kind) (b c : Bool) → start_by kind b ≡ start_by kind c → f kind b ≡ f kind c
by_start f off Off b c e = off b c
by_start f off (On timing) b c e = ap (f (On timing)) e

-- ---- "With m at 100 or less a started phase gains 0."

no_gain_law : (kind : Kind) (b : Bool) (settings : Settings) (g : ℕ) (state : PhaseState) → start_by kind b ≡ true → state.sum ≤ trip_level settings → valid_for kind state ≡ true → gain_at settings g ≡ 0 → (next_by kind b settings g state).sum ≡ state.sum
no_gain_law Off b settings g state on small v flat = absurd (false≢true on)
no_gain_law (On timing) false settings g state on small v flat = absurd (false≢true on)
no_gain_law (On Definite) true settings g state on small v flat = sym (definite_sum state v)
no_gain_law (On (Curve rule)) true settings g state on small v flat = omega (arith, small, flat)

-- and loses nothing: its sum stays
pub sum_stands_still : (settings : Settings) (state : PhaseState) (g : ℕ) → valid settings state ≡ true → phase_start settings state g ≡ true → ratio_of g settings.start_current ≤ 100 → (next_state settings state g).sum ≡ state.sum
unfolding phase_start next_state
sum_stands_still settings state g v on low =
    no_gain_law (kind_of settings.operation) (started settings state g) settings g state on (valid_in_limits settings state v).sum (valid_kind settings state v) (gain_zero_to_100 settings.operation _ low)
