-- The refusal of a timer is the lowest number that applies: its checks stand in the order of their numbers.
-- Assumes nothing.
use Prim.Native.Nat.{ℕ}
use mathlib.Core.Path.{refl}
use Rattle.checks.proofs.LowestLaws.{IsLowest, lowest_is_least}
use Rattle.timer.specs.Refusals.{timer_checks, timer_refusal}
use Rattle.timer.specs.declared.state.TimerState.{TimerState}

-- 0 exactly where the state is valid and the delay fits; else 8 or 15, and 8 where both apply.
pub timer_refusal_lowest : (state : TimerState) (d : ℕ) → IsLowest (timer_refusal state d) (timer_checks state d)
timer_refusal_lowest state d = lowest_is_least (timer_checks state d) refl
