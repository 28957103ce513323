-- Each call's refusal is the lowest number that applies: its checks stand in the order of their numbers.
-- Assumes nothing.
use mathlib.Core.Path.{refl}
use Rattle.checks.proofs.LowestLaws.{IsLowest, lowest_is_least}
use Rattle.phase.specs.declared.settings.Settings.{Settings}
use Rattle.phase.specs.declared.state.PhaseState.{PhaseState}
use Rattle.phase.specs.Settings.{settings_checks, settings_refusal}
use Rattle.phase.specs.Tick.{phase_checks, tick_refusal}

pub settings_refusal_lowest : (settings : Settings) → IsLowest (settings_refusal settings) (settings_checks settings)
unfolding settings_refusal
settings_refusal_lowest settings = lowest_is_least (settings_checks settings) refl

pub tick_refusal_lowest : (settings : Settings) (state : PhaseState) → IsLowest (tick_refusal settings state) (phase_checks settings state)
unfolding tick_refusal
tick_refusal_lowest settings state = lowest_is_least (phase_checks settings state) refl
