-- Set delay in words, over a run of ticks.
-- Assumes nothing.
use Prim.Native.Nat.{ℕ, suc, ◌+◌, ◌≤◌, min}
use native.Mathlib.Numerals.{add-one}
use mathlib.Core.Bool.{true}
use mathlib.Core.List.{List, [], ◌∷◌}
use mathlib.Core.Path.{◌≡◌, refl, ◌∙◌}
use borrow.Author.Tests.{leb-true}
use lib.Dec.{leb}
use Rattle.timer.specs.Inputs.{input_of}
use Rattle.timer.specs.State.{count_limit, delay_limit, fresh_timer}
use Rattle.timer.specs.declared.inputs.Inputs.{Inputs}
use Rattle.timer.specs.declared.state.TimerState.{TimerState}
use Rattle.timer.proofs.Accepted.{ruled_by, run_goes_by_rule}
use Rattle.timer.proofs.Accepted.Rule.{set_delay}
use Rattle.timer.proofs.Counting.{on_in_a_row, counted_in_a_row, over_d_is_latest_on}
use Rattle.timer.proofs.Runs.{outputs, WithoutReset, set_delay_by, latest_on, each_tick}

set_delay_from_history : (d : ℕ) → d ≤ delay_limit → (earlier : List Inputs) (state : TimerState)
    → state.count ≡ min (on_in_a_row input_of earlier) count_limit → (ticks : List Inputs)
    → outputs (ruled_by set_delay d) state ticks ≡ each_tick (latest_on input_of (suc d)) earlier ticks
unfolding outputs each_tick
set_delay_from_history d h earlier state e [] = refl
set_delay_from_history d h earlier state e (inputs ∷ rest) =
    let next = (ruled_by set_delay d state inputs).state in
    let count = counted_in_a_row input_of inputs earlier state.count e in
    rw (
      over_d_is_latest_on input_of d next.count (inputs ∷ earlier) h count,
      set_delay_from_history d h (inputs ∷ earlier) next count rest,
    )

-- From fresh and without reset, Set delay is on at a tick exactly when the input was on at the last d + 1 ticks, this one the
-- last of them; so it is off at the first d ticks.
pub set_delay_on_exactly_when_last_d+1_on : (d : ℕ) → leb d delay_limit ≡ true → (ticks : List Inputs)
    → WithoutReset ticks → outputs (set_delay_by d) fresh_timer ticks ≡ each_tick (latest_on input_of (d + 1)) [] ticks
unfolding on_in_a_row
set_delay_on_exactly_when_last_d+1_on d fits ticks none =
    rw (add-one d)
    ((run_goes_by_rule set_delay d fresh_timer ticks refl fits none).outputs_same
    ∙ set_delay_from_history d (leb-true d delay_limit fits) [] fresh_timer refl ticks)
