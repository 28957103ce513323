-- What a timer refuses (01, 'Refusal numbers').
use Rattle.std.specs.Prelude.{ℕ, List, [], ◌∷◌, leb}
use Rattle.checks.specs.Checks.{Check, check, lowest}
use Rattle.timer.specs.State.{valid_timer, delay_limit}
use Rattle.timer.specs.declared.state.TimerState.{TimerState}

-- 8: "a state isn't valid"
abbrev pub invalid_timer : ℕ
invalid_timer = 8

-- 15: "a timer delay is over 60,000"
abbrev pub delay_too_long : ℕ
delay_too_long = 15

-- in the order of their numbers
abbrev pub timer_checks : TimerState → ℕ → List Check
timer_checks state d = check (valid_timer state) invalid_timer ∷ check (leb d delay_limit) delay_too_long ∷ []

-- "The lowest number that applies to the call's arguments is given", whether the reset input is on or off
abbrev pub timer_refusal : TimerState → ℕ → ℕ
timer_refusal state d = lowest (timer_checks state d)
