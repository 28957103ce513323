-- Hold in words, over a run of ticks.
-- Assumes nothing.
use Prim.Native.Nat.{ℕ, suc, ◌-◌, ◌<◌}
use native.Mathlib.Omega.{arith}
use mathlib.Core.Bool.{Bool, true, false, cond, not, ◌&&◌, and-true}
use mathlib.Core.List.{List, [], ◌∷◌}
use mathlib.Core.Path.{◌≡◌, refl, ◌∙◌, ap}
use borrow.Author.Tests.{le-leb, lt-ltb}
use lib.Dec.{leb}
use lib.ListN.{length}
use Rattle.timer.specs.Answer.{accepted}
use Rattle.timer.specs.Inputs.{input_of}
use Rattle.timer.specs.State.{count_limit, delay_limit}
use Rattle.timer.specs.declared.answer.Timed.{Timed}
use Rattle.timer.specs.declared.inputs.Inputs.{Inputs}
use Rattle.timer.specs.declared.state.TimerState.{TimerState}
use Rattle.timer.proofs.Accepted.{accepted_gives_ruled, ruled_by, run_goes_by_rule}
use Rattle.timer.proofs.Accepted.Rule.{hold}
use Rattle.timer.proofs.Runs.{outputs, timer_after, WithoutReset, hold_by, last_input, on_throughout}

-- as many ticks as the count says
record CountsDown (d : ℕ) (state : TimerState) (ticks : List Inputs) : Type 0 where
  stays_on : outputs (ruled_by hold d) state ticks ≡ on_throughout ticks
  spent : (timer_after (ruled_by hold d) state ticks).count ≡ 0
  remembered : (timer_after (ruled_by hold d) state ticks).previous ≡ last_input state.previous ticks

-- above 0, on, and the count falls by 1
held_tick : (d n : ℕ) (state : TimerState) (inputs : Inputs) → state.count ≡ suc n
    → ruled_by hold d state inputs ≡ accepted (record { count = n; previous = input_of inputs; latch = state.latch }) true
held_tick d n state inputs e =
    let falls : state.count - 1 ≡ n = omega (arith, e) in
    rw (lt-ltb 0 state.count (omega (arith, e)), falls)

counts_down : (d : ℕ) (state : TimerState) (ticks : List Inputs) → state.count ≡ length ticks
    → CountsDown d state ticks
unfolding outputs timer_after last_input
counts_down d state [] e = record { stays_on = refl; spent = e; remembered = refl }
counts_down d state (inputs ∷ rest) e =
    let tick = held_tick d (length rest) state inputs e in
    let then = counts_down d (record { count = length rest; previous = input_of inputs; latch = state.latch }) rest refl in
    record {
      stays_on = rw (tick, then.stays_on);
      spent = rw (timer_after, tick) then.spent;
      remembered = rw (timer_after, tick) then.remembered;
    }

-- a rise that finds it off
rise_tick : (d : ℕ) (state : TimerState) (rise : Inputs) → state.count ≡ 0 → state.previous ≡ false
    → input_of rise ≡ true → 0 < d
    → ruled_by hold d state rise ≡ accepted (record { count = d - 1; previous = true; latch = state.latch }) true
rise_tick d state rise count off on above = rw (count, off, on, lt-ltb 0 d above)

on_if : (fires : Bool) (fired idle : Timed) → fired.on ≡ true → idle.on ≡ false → (cond fires fired idle).on ≡ fires
on_if true fired idle on off = on
on_if false fired idle on off = off

-- no count left: on exactly at a rise
at_0_on_at_a_rise : (d : ℕ) (state : TimerState) (next : Inputs) → state.count ≡ 0 → 0 < d
    → (ruled_by hold d state next).on ≡ input_of next && not state.previous
at_0_on_at_a_rise d state next count above =
    let rises = input_of next && not state.previous in
    rw (count, lt-ltb 0 d above, and-true rises) (on_if rises _ _ refl refl)

-- what a rise that finds Hold off does, over the d ticks from it on, and at the tick after them
pub record OnForDelay (d : ℕ) (state : TimerState) (ticks : List Inputs) : Type 0 where
  pub on_throughout_law : outputs (hold_by d) state ticks ≡ on_throughout ticks
  pub count_is_0 : (timer_after (hold_by d) state ticks).count ≡ 0
  pub then_on_at_a_rise : (next : Inputs) → next.reset ≡ false
      → (hold_by d (timer_after (hold_by d) state ticks) next).on ≡ input_of next && not (last_input false ticks)

-- From a state with count 0 and the previous input off, let the input be on at a tick, and whatever it does at the ticks
-- after it, without reset: at d ticks, that one the first, Hold is on, and then its count is 0; at the next tick it is on
-- exactly if there is another rise, the input on and the one before off.
pub hold_on_for_d_ticks_from_a_rise : (d : ℕ) (state : TimerState) (rise : Inputs) (later : List Inputs)
    → leb d delay_limit ≡ true → state.count ≡ 0 → state.previous ≡ false → input_of rise ≡ true
    → WithoutReset (rise ∷ later) → length (rise ∷ later) ≡ d
    → OnForDelay d state (rise ∷ later)
unfolding outputs timer_after last_input
hold_on_for_d_ticks_from_a_rise d state rise later fits count off on none long =
    let after = timer_after (ruled_by hold d) state (rise ∷ later) in
    let valid = le-leb state.count count_limit (omega (arith, count)) in
    let run = run_goes_by_rule hold d state (rise ∷ later) valid fits none in
    let above : 0 < d = omega (arith, long) in
    let falls : d - 1 ≡ length later = omega (arith, long) in
    let tick = rise_tick d state rise count off on above in
    let then = counts_down d (record { count = d - 1; previous = true; latch = state.latch }) later falls in
    let spent : after.count ≡ 0 = rw (timer_after, tick) then.spent in
    let remembered : after.previous ≡ last_input false (rise ∷ later) = rw (timer_after, tick, on) then.remembered in
    record {
      on_throughout_law = run.outputs_same ∙ rw (tick, then.stays_on);
      count_is_0 = ap (λ s. s.count) run.state_same ∙ spent;
      then_on_at_a_rise = λ next unreset.
          rw (run.state_same, unreset, accepted_gives_ruled after d (ruled_by hold d after next) run.leaves_valid fits)
          (at_0_on_at_a_rise d after next spent above ∙ ap (λ previous. input_of next && not previous) remembered);
    }
