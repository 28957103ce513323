-- The state of a timer, and the limits of its count and delay (01, 'Timers').
use Rattle.std.specs.Prelude.{ℕ, Bool, false, leb}
use Rattle.timer.specs.declared.state.TimerState.{TimerState}

-- "State: count (valid to 60,001), previous input, latch"
abbrev pub count_limit : ℕ
count_limit = 60001

abbrev pub valid_timer : TimerState → Bool
valid_timer state = leb state.count count_limit

-- 01, 'Refusal numbers', 15: "over 60,000"
abbrev pub delay_limit : ℕ
delay_limit = 60000

-- "fresh is 0, off, off"
abbrev pub fresh_timer : TimerState
fresh_timer = record { count = 0; previous = false; latch = false }

-- ---- "What a rule doesn't name stays as it was."

abbrev pub with_count : ℕ → TimerState → TimerState
with_count count state = record { count = count; previous = state.previous; latch = state.latch }

abbrev pub with_previous : Bool → TimerState → TimerState
with_previous previous state = record { count = state.count; previous = previous; latch = state.latch }

abbrev pub with_latch : Bool → TimerState → TimerState
with_latch latch state = record { count = state.count; previous = state.previous; latch = latch }
