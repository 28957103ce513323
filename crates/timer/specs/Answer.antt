-- What a timer answers: the refusal first, then the reset, then what its rule gives (01, 'Refusal numbers' and 'Timers').
use Rattle.std.specs.Prelude.{ℕ, Bool, false, cond, eqb}
use Rattle.timer.specs.State.{fresh_timer}
use Rattle.timer.specs.declared.answer.Timed.{Timed}
use Rattle.timer.specs.declared.state.TimerState.{TimerState}

-- "0 means accepted"
abbrev pub accepted : TimerState → Bool → Timed
accepted state on = record { refusal = 0; state = state; on = on }

-- "A refusal returns its number, the state unchanged, all outputs off"
abbrev pub refused : ℕ → TimerState → Timed
refused refusal state = record { refusal = refusal; state = state; on = false }

-- "A reset input makes the state fresh and the output off. Else" what the rule gives
abbrev pub answered : ℕ → Bool → TimerState → Timed → Timed
answered refusal reset state ruled =
    cond (eqb refusal 0) (cond reset (accepted fresh_timer false) ruled) (refused refusal state)
