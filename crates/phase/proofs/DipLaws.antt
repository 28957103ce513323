-- Definite time through dips (02, E7): a dip that is shorter than the reset time keeps the run, a longer one clears it, and the ticks
-- after a dip are added to what it left.
-- Assumes nothing.
use Prim.Native.Nat.{ℕ, ◌+◌, ◌<◌, min}
use native.Mathlib.Omega.{arith}
use mathlib.Core.Bool.{Bool, true, false, cond}
use mathlib.Core.Path.{◌≡◌, ap, ◌∙◌}
use lib.Dec.{leb}
use Rattle.checks.proofs.Tests.{leb_iff}
use Rattle.phase.specs.declared.operation.Kind.TheVariants.{On}
use Rattle.phase.specs.declared.operation.Timing.TheVariants.{Definite}
use Rattle.phase.specs.declared.settings.Settings.{Settings}
use Rattle.phase.specs.declared.state.PhaseState.{PhaseState}
use Rattle.phase.specs.device.Closed.{advance_by}
use Rattle.phase.specs.device.Ranges.{InRange}
use Rattle.phase.specs.Operation.{kind_of}
use Rattle.phase.specs.State.{run_limit}
use Rattle.phase.specs.Tick.{started, phase_start}
use Rattle.phase.specs.Ticks.{state_after}
use Rattle.phase.proofs.Walk.{ticks_closed}

module _ (settings : Settings) (definite : kind_of settings.operation ≡ On Definite) where
  -- n equal ticks of a phase whose first is started, or is not
  definite_ticks : (g n : ℕ) (state : PhaseState) (b : Bool) → phase_start settings state g ≡ b → 0 < n → state_after settings g n state ≡ advance_by (On Definite) b settings g n state
  unfolding phase_start
  definite_ticks g n state b e pos =
      let on : started settings state g ≡ b = rw definite at e in
      ticks_closed settings g n state pos ∙ rw (definite, on)

  -- from the first tick of the dip on
  pub dip_keeps_run : (g n : ℕ) (state : PhaseState) → InRange settings → state.drop ≡ 0 → phase_start settings state g ≡ false → 0 < n → (state_after settings g n state).run ≡ cond (leb settings.reset_time n) 0 state.run
  dip_keeps_run g n state range fresh idle pos =
      let reached : leb settings.reset_time (min (state.drop + n) run_limit) ≡ leb settings.reset_time n =
      leb_iff settings.reset_time (min (state.drop + n) run_limit) settings.reset_time n (λ h. omega (arith, h, fresh)) (λ h. omega (arith, h, fresh, range.reset_high)) in
      ap (λ (s : PhaseState). s.run) (definite_ticks g n state false idle pos) ∙ rw reached

  -- whatever the dips before
  pub ticks_count_on : (g n : ℕ) (state : PhaseState) → phase_start settings state g ≡ true → 0 < n → (state_after settings g n state).run ≡ min (state.run + n) run_limit
  ticks_count_on g n state on pos = ap (λ (s : PhaseState). s.run) (definite_ticks g n state true on pos)
