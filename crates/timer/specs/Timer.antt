-- What the four calls answer (01, 'Timers').
use Rattle.std.specs.Prelude.{ℕ, Bool}
use Rattle.timer.specs.Answer.{answered}
use Rattle.timer.specs.Inputs.{input_of}
use Rattle.timer.specs.Refusals.{timer_refusal}
use Rattle.timer.specs.Rules.{set_delay_rule, hold_rule, reset_delay_rule, flip_flop_rule}
use Rattle.timer.specs.declared.answer.Timed.{Timed}
use Rattle.timer.specs.declared.inputs.Inputs.{Inputs}
use Rattle.timer.specs.declared.state.TimerState.{TimerState}

-- from what the rule gives
unfoldable pub timer_answer : Bool → TimerState → ℕ → Timed → Timed
timer_answer reset state d ruled = answered (timer_refusal state d) reset state ruled

abbrev pub set_delay_answer : TimerState → ℕ → Inputs → Timed
set_delay_answer state d inputs = timer_answer inputs.reset state d (set_delay_rule d (input_of inputs) state)

abbrev pub hold_answer : TimerState → ℕ → Inputs → Timed
hold_answer state d inputs = timer_answer inputs.reset state d (hold_rule d (input_of inputs) state)

abbrev pub reset_delay_answer : TimerState → ℕ → Inputs → Timed
reset_delay_answer state d inputs = timer_answer inputs.reset state d (reset_delay_rule d (input_of inputs) state)

abbrev pub flip_flop_answer : TimerState → ℕ → Bool → Bool → Bool → Timed
flip_flop_answer state d set trip reset = timer_answer reset state d (flip_flop_rule d set trip state)
