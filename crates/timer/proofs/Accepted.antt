-- An accepted call: what it gives, that it leaves a valid state, and so a run of accepted ticks.
-- Assumes nothing.
use Prim.Native.Nat.{ℕ, ◌≤◌}
use native.Mathlib.Omega.{arith}
use mathlib.Core.Bool.{Bool, true, false}
use mathlib.Core.List.{List, [], ◌∷◌}
use mathlib.Core.Path.{◌≡◌, refl}
use borrow.Author.Tests.{leb-true, le-leb, eqb-true}
use lib.Dec.{leb, ltb, eqb}
use Rattle.checks.proofs.Cases.{by_cond}
use Rattle.checks.proofs.PassedLaws.{all_passed}
use Rattle.timer.specs.Answer.{accepted}
use Rattle.timer.specs.Inputs.{input_of}
use Rattle.timer.specs.Refusals.{timer_checks, timer_refusal}
use Rattle.timer.specs.Rules.{fires, set_delay_rule, hold_rule, reset_delay_rule, flip_flop_rule}
use Rattle.timer.specs.State.{count_limit, delay_limit, fresh_timer, valid_timer}
use Rattle.timer.specs.Timer.{timer_answer}
use Rattle.timer.specs.declared.answer.Timed.{Timed}
use Rattle.timer.specs.declared.inputs.Inputs.{Inputs}
use Rattle.timer.specs.declared.state.TimerState.{TimerState}
use Rattle.timer.proofs.Runs.{outputs, timer_after, WithoutReset}

-- ---- one call

pub accepted_gives_ruled : (state : TimerState) (d : ℕ) (ruled : Timed) → valid_timer state ≡ true
    → leb d delay_limit ≡ true → timer_answer false state d ruled ≡ ruled
unfolding timer_answer
accepted_gives_ruled state d ruled valid fits = rw (valid, fits)

pub reset_makes_fresh : (state : TimerState) (d : ℕ) (ruled : Timed) → valid_timer state ≡ true
    → leb d delay_limit ≡ true → timer_answer true state d ruled ≡ accepted fresh_timer false
unfolding timer_answer
reset_makes_fresh state d ruled valid fits = rw (valid, fits)

-- ---- it leaves a valid state

-- the four rules, each with its input; the flip-flop has a set and a trip input
pub data Rule : Type 0 where
  set_delay : Bool → Rule
  hold : Bool → Rule
  reset_delay : Bool → Rule
  flip_flop : Bool → Bool → Rule

abbrev pub by_rule : Rule → ℕ → TimerState → Timed
by_rule (set_delay input) d state = set_delay_rule d input state
by_rule (hold input) d state = hold_rule d input state
by_rule (reset_delay input) d state = reset_delay_rule d input state
by_rule (flip_flop set trip) d state = flip_flop_rule d set trip state

abbrev InLimit : Timed → Type 0
InLimit timed = timed.state.count ≤ count_limit

rule_in_limit : (rule : Rule) (d : ℕ) (state : TimerState) → state.count ≤ count_limit → d ≤ delay_limit
    → InLimit (by_rule rule d state)
rule_in_limit (set_delay input) d state h k = by_cond (λ n. n ≤ count_limit) input _ _ (λ t. omega arith) (λ t. omega arith)
rule_in_limit (hold input) d state h k =
    by_cond InLimit (ltb 0 state.count) _ _ (λ t. omega arith) (λ t. by_cond InLimit (fires d input state.previous) _ _ (λ f. omega arith) (λ f. h))
rule_in_limit (reset_delay input) d state h k = by_cond InLimit input _ _ (λ t. omega arith) (λ t. omega arith)
rule_in_limit (flip_flop set trip) d state h k = by_cond (λ n. n ≤ count_limit) set _ _ (λ t. omega arith) (λ t. omega arith)

pub rule_leaves_valid : (rule : Rule) (d : ℕ) (state : TimerState) → valid_timer state ≡ true → leb d delay_limit ≡ true
    → valid_timer (by_rule rule d state).state ≡ true
rule_leaves_valid rule d state valid fits =
    le-leb (by_rule rule d state).state.count count_limit
    (rule_in_limit rule d state (leb-true state.count count_limit valid) (leb-true d delay_limit fits))

-- an answer without a refusal is that of a call that passed both checks
answer_passed : (reset : Bool) (state : TimerState) (d : ℕ) (ruled : Timed)
    → (timer_answer reset state d ruled).refusal ≡ 0 → (valid_timer state ≡ true) × (leb d delay_limit ≡ true)
unfolding timer_answer
answer_passed reset state d ruled e =
    let n = timer_refusal state d in
    let none = by_cond (λ (answer : Timed). answer.refusal ≡ 0 → n ≡ 0) (eqb n 0) _ _ (λ t z. eqb-true n 0 t) (λ t z. z) e in
    let (valid, (fits, end)) = (all_passed (timer_checks state d) 0 refl none).0 in
    (valid, fits)

pub accepted_leaves_valid : (rule : Rule) (reset : Bool) (state : TimerState) (d : ℕ)
    → (timer_answer reset state d (by_rule rule d state)).refusal ≡ 0 → valid_timer (timer_answer reset state d (by_rule rule d state)).state ≡ true
accepted_leaves_valid rule true state d e =
    let (valid, fits) = answer_passed true state d (by_rule rule d state) e in
    rw (reset_makes_fresh state d (by_rule rule d state) valid fits)
accepted_leaves_valid rule false state d e =
    let (valid, fits) = answer_passed false state d (by_rule rule d state) e in
    rw (accepted_gives_ruled state d (by_rule rule d state) valid fits) (rule_leaves_valid rule d state valid fits)

-- ---- a run of accepted ticks

-- one of the three timers that have one input
abbrev answer_by : (Bool → Rule) → ℕ → TimerState → Inputs → Timed
answer_by rule d state inputs = timer_answer inputs.reset state d (by_rule (rule (input_of inputs)) d state)

-- its rule alone
abbrev pub ruled_by : (Bool → Rule) → ℕ → TimerState → Inputs → Timed
ruled_by rule d state inputs = by_rule (rule (input_of inputs)) d state

-- from a valid state, with a delay that fits and without reset, a run goes by the rule alone
pub record GoesByRule (rule : Bool → Rule) (d : ℕ) (state : TimerState) (ticks : List Inputs) : Type 0 where
  pub outputs_same : outputs (answer_by rule d) state ticks ≡ outputs (ruled_by rule d) state ticks
  pub state_same : timer_after (answer_by rule d) state ticks ≡ timer_after (ruled_by rule d) state ticks
  pub leaves_valid : valid_timer (timer_after (ruled_by rule d) state ticks) ≡ true

pub run_goes_by_rule : (rule : Bool → Rule) (d : ℕ) (state : TimerState) (ticks : List Inputs)
    → valid_timer state ≡ true → leb d delay_limit ≡ true → WithoutReset ticks → GoesByRule rule d state ticks
unfolding outputs timer_after WithoutReset
run_goes_by_rule rule d state [] valid fits none = record { outputs_same = refl; state_same = refl; leaves_valid = valid }
run_goes_by_rule rule d state (inputs ∷ rest) valid fits none =
    let next = (by_rule (rule (input_of inputs)) d state).state in
    let next_valid = rule_leaves_valid (rule (input_of inputs)) d state valid fits in
    let then = run_goes_by_rule rule d next rest next_valid fits none.1 in
    let tick = accepted_gives_ruled state d (by_rule (rule (input_of inputs)) d state) valid fits in
    record {
      outputs_same = rw (none.0, tick, then.outputs_same);
      state_same = rw (none.0, tick, then.state_same);
      leaves_valid = then.leaves_valid;
    }
