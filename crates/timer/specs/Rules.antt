-- The four rules (01, 'Timers').
use Rattle.std.specs.Prelude.{ℕ, ◌+◌, ◌-◌, min, Bool, true, false, cond, not, ◌&&◌, ◌||◌, ltb}
use Rattle.timer.specs.Answer.{accepted}
use Rattle.timer.specs.State.{count_limit, with_count, with_previous, with_latch}
use Rattle.timer.specs.declared.answer.Timed.{Timed}
use Rattle.timer.specs.declared.state.TimerState.{TimerState}

-- "count the consecutive ticks on (stop at 60,001), else 0"
abbrev pub counted : Bool → ℕ → ℕ
counted input count = cond input (min (count + 1) count_limit) 0

-- "Set delay: count the consecutive ticks on (stop at 60,001), else 0; on when the count is over d."
abbrev pub set_delay_rule : ℕ → Bool → TimerState → Timed
set_delay_rule d input state =
    accepted (with_count (counted input state.count) state) (ltb d (counted input state.count))

-- "if the input is on and the previous was off and d is above 0"
abbrev pub fires : ℕ → Bool → Bool → Bool
fires d input previous = (input && not previous) && ltb 0 d

-- "In each case the previous input becomes this one."
abbrev pub held : ℕ → Bool → Bool → TimerState → Timed
held count on input state = accepted (with_previous input (with_count count state)) on

-- "Hold: if count is above 0, on, and count falls by 1. Else, if the input is on and the previous was off and d is above 0,
-- on, and count is d - 1. Else off. In each case the previous input becomes this one."
abbrev pub hold_rule : ℕ → Bool → TimerState → Timed
hold_rule d input state =
    cond (ltb 0 state.count)
    (held (state.count - 1) true input state)
    (cond (fires d input state.previous) (held (d - 1) true input state) (held state.count false input state))

-- "Reset delay: input on: on, count is d. Else on while count is above 0, which falls by 1." In ℕ 0 - 1 is 0.
abbrev pub reset_delay_rule : ℕ → Bool → TimerState → Timed
reset_delay_rule d input state =
    cond input
    (accepted (with_count d state) true)
    (accepted (with_count (state.count - 1) state) (ltb 0 state.count))

-- "latched by a count over d or by the trip input"; what was latched before stays so
abbrev pub latched : ℕ → Bool → ℕ → Bool → Bool
latched d trip count latch = latch || (ltb d count || trip)

-- "on while latched, from that tick"
abbrev pub latching : Bool → TimerState → Timed
latching latch state = accepted (with_latch latch state) latch

-- "Flip-flop: the set input counts as in Set delay; latched by a count over d or by the trip input; on while latched, from
-- that tick."
abbrev pub flip_flop_rule : ℕ → Bool → Bool → TimerState → Timed
flip_flop_rule d set trip state =
    latching (latched d trip (counted set state.count) state.latch) (with_count (counted set state.count) state)
