-- Reset delay in words, over a run of ticks.
-- Assumes nothing.
use Prim.Native.Nat.{ℕ, zero, suc, ◌+◌, ◌-◌, ◌≤◌}
use native.Mathlib.Numerals.{add-one}
use native.Mathlib.Omega.{arith}
use mathlib.Core.Bool.{Bool, true, false, cond, ◌||◌}
use mathlib.Core.List.{List, [], ◌∷◌}
use mathlib.Core.Path.{◌≡◌, refl, sym, ◌∙◌, ap}
use borrow.Author.Tests.{lt-ltb, le-ltb}
use lib.Dec.{leb, ltb}
use Rattle.checks.proofs.Cases.{by_cond}
use Rattle.checks.proofs.Tests.{leb_iff}
use Rattle.timer.specs.Answer.{accepted}
use Rattle.timer.specs.Inputs.{input_of}
use Rattle.timer.specs.Rules.{reset_delay_rule}
use Rattle.timer.specs.State.{delay_limit, fresh_timer, valid_timer, with_count}
use Rattle.timer.specs.declared.inputs.Inputs.{Inputs}
use Rattle.timer.specs.declared.state.TimerState.{TimerState}
use Rattle.timer.proofs.Accepted.{ruled_by, run_goes_by_rule}
use Rattle.timer.proofs.Accepted.Rule.{reset_delay}
use Rattle.timer.proofs.Runs.{outputs, WithoutReset, reset_delay_by, each_tick, one_of_latest_on, AllOff, on_for_first}

-- ---- after the input

at_0_off : (d : ℕ) (state : TimerState) (inputs : Inputs) → state.count ≡ 0 → input_of inputs ≡ false
    → ruled_by reset_delay d state inputs ≡ accepted (with_count 0 state) false
at_0_off d state inputs e off = rw (off, e)

above_0_on : (d n : ℕ) (state : TimerState) (inputs : Inputs) → state.count ≡ suc n → input_of inputs ≡ false
    → ruled_by reset_delay d state inputs ≡ accepted (with_count n state) true
above_0_on d n state inputs e off =
    let falls : state.count - 1 ≡ n = omega (arith, e) in
    rw (off, lt-ltb 0 state.count (omega (arith, e)), falls)

off_run : (d n : ℕ) (state : TimerState) → state.count ≡ n → (ticks : List Inputs) → AllOff ticks
    → outputs (ruled_by reset_delay d) state ticks ≡ on_for_first n ticks
unfolding outputs AllOff on_for_first
off_run d n state e [] off = refl
off_run d zero state e (inputs ∷ rest) off =
    rw (at_0_off d state inputs e off.0, off_run d zero (with_count 0 state) refl rest off.1)
off_run d (suc n) state e (inputs ∷ rest) off =
    rw (above_0_on d n state inputs e off.0, off_run d n (with_count n state) refl rest off.1)

-- From a valid state and without reset, let the input be on at a tick and off at those after it: Reset delay is on at the tick
-- with the input on, on at exactly the first d of those after it, and off at the others.
pub reset_delay_on_with_input_and_d_ticks_after : (d : ℕ) (state : TimerState) (last_on : Inputs) (later : List Inputs)
    → leb d delay_limit ≡ true → valid_timer state ≡ true → input_of last_on ≡ true → AllOff later
    → WithoutReset (last_on ∷ later) → outputs (reset_delay_by d) state (last_on ∷ later) ≡ true ∷ on_for_first d later
unfolding outputs
reset_delay_on_with_input_and_d_ticks_after d state last_on later fits valid on off none =
    (run_goes_by_rule reset_delay d state (last_on ∷ later) valid fits none).outputs_same
    ∙ rw (outputs, on, off_run d d (with_count d state) refl later off)

-- ---- from fresh

-- what the count is after a history, the latest tick first
unfoldable ticks_left : ℕ → List Inputs → ℕ
ticks_left d [] = 0
ticks_left d (inputs ∷ earlier) = cond (input_of inputs) d (ticks_left d earlier - 1)

ticks_left_to_d : (d : ℕ) (history : List Inputs) → ticks_left d history ≤ d
unfolding ticks_left
ticks_left_to_d d [] = omega arith
ticks_left_to_d d (inputs ∷ earlier) =
    by_cond (λ n. n ≤ d) (input_of inputs) d (ticks_left d earlier - 1) (λ t. omega arith) (λ t. omega (arith, ticks_left_to_d d earlier))

one_of_latest_on_is_left : (d n : ℕ) (history : List Inputs) → n ≤ d
    → one_of_latest_on input_of n history ≡ ltb (d - n) (ticks_left d history)
unfolding one_of_latest_on ticks_left
one_of_latest_on_is_left d zero history h =
    sym (le-ltb (d - 0) (ticks_left d history) (omega (arith, ticks_left_to_d d history)))
one_of_latest_on_is_left d (suc n) [] h = sym (le-ltb (d - suc n) 0 (omega arith))
one_of_latest_on_is_left d (suc n) (inputs ∷ earlier) h =
    go (input_of inputs) (one_of_latest_on input_of n earlier) (ticks_left d earlier)
    (one_of_latest_on_is_left d n earlier (omega (arith, h)))
  where
    go : (on before : Bool) (left : ℕ) → before ≡ ltb (d - n) left → on || before ≡ ltb (d - suc n) (cond on d (left - 1))
    go true before left e = sym (lt-ltb (d - suc n) d (omega (arith, h)))
    go false before left e =
        e ∙ leb_iff (suc (d - n)) left (suc (d - suc n)) (left - 1) (λ f. omega (arith, f, h)) (λ f. omega (arith, f, h))

rule_on : (d : ℕ) (on : Bool) (state : TimerState) → (reset_delay_rule d on state).on ≡ on || ltb 0 state.count
rule_on d true state = refl
rule_on d false state = refl

rule_count : (d : ℕ) (on : Bool) (state : TimerState)
    → (reset_delay_rule d on state).state.count ≡ cond on d (state.count - 1)
rule_count d true state = refl
rule_count d false state = refl

reset_delay_from_history : (d : ℕ) (earlier : List Inputs) (state : TimerState) → state.count ≡ ticks_left d earlier
    → (ticks : List Inputs)
    → outputs (ruled_by reset_delay d) state ticks ≡ each_tick (one_of_latest_on input_of (suc d)) earlier ticks
unfolding outputs each_tick one_of_latest_on ticks_left
reset_delay_from_history d earlier state e [] = refl
reset_delay_from_history d earlier state e (inputs ∷ rest) =
    let none_over : d - d ≡ 0 = omega arith in
    let left : one_of_latest_on input_of d earlier ≡ ltb 0 state.count =
    rw (one_of_latest_on_is_left d d earlier (omega arith), none_over, e) in
    let count = rule_count d (input_of inputs) state ∙ ap (λ n. cond (input_of inputs) d (n - 1)) e in
    rw (
      rule_on d (input_of inputs) state,
      left,
      reset_delay_from_history d (inputs ∷ earlier) (reset_delay_rule d (input_of inputs) state).state count rest,
    )

-- From fresh and without reset, Reset delay is on at a tick exactly when the input was on at one of the last d + 1 ticks, this
-- one the last of them.
pub reset_delay_on_exactly_when_one_of_last_d+1_on : (d : ℕ) → leb d delay_limit ≡ true → (ticks : List Inputs)
    → WithoutReset ticks → outputs (reset_delay_by d) fresh_timer ticks ≡ each_tick (one_of_latest_on input_of (d + 1)) [] ticks
unfolding ticks_left
reset_delay_on_exactly_when_one_of_last_d+1_on d fits ticks none =
    rw (add-one d)
    ((run_goes_by_rule reset_delay d fresh_timer ticks refl fits none).outputs_same
    ∙ reset_delay_from_history d [] fresh_timer refl ticks)
