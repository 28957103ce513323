-- The flip-flop in words, over a run of ticks.
-- Assumes nothing.
use Prim.Native.Nat.{ℕ, min}
use native.Mathlib.Numerals.{add-one}
use mathlib.Core.Bool.{Bool, true, false}
use mathlib.Core.List.{List, [], ◌∷◌}
use mathlib.Core.Path.{◌≡◌, refl}
use borrow.Author.Tests.{leb-true}
use lib.Dec.{leb}
use Rattle.timer.specs.Answer.{accepted}
use Rattle.timer.specs.Rules.{counted, flip_flop_rule}
use Rattle.timer.specs.State.{count_limit, delay_limit, fresh_timer, valid_timer, with_count}
use Rattle.timer.specs.Timer.{flip_flop_answer}
use Rattle.timer.specs.declared.state.TimerState.{TimerState}
use Rattle.timer.proofs.Accepted.{by_rule, accepted_gives_ruled, reset_makes_fresh, rule_leaves_valid}
use Rattle.timer.proofs.Accepted.Rule.{flip_flop}
use Rattle.timer.proofs.Counting.{on_in_a_row, counted_in_a_row, over_d_is_latest_on}
use Rattle.timer.proofs.Runs.{outputs, timer_after, each_tick, latched_so_far, SetTrip, flip_flop_by, on_throughout}

-- Without reset, the flip-flop is on exactly while it is latched.
pub flip_flop_on_is_latched : (d : ℕ) (state : TimerState) (inputs : SetTrip) → leb d delay_limit ≡ true
    → valid_timer state ≡ true → (flip_flop_by d state inputs).on ≡ (flip_flop_by d state inputs).state.latch
flip_flop_on_is_latched d state inputs fits valid =
    rw (accepted_gives_ruled state d (flip_flop_rule d inputs.set inputs.trip state) valid fits)

-- a tick that finds it latched
latched_tick : (d : ℕ) (state : TimerState) (inputs : SetTrip) → leb d delay_limit ≡ true → valid_timer state ≡ true
    → state.latch ≡ true
    → flip_flop_by d state inputs ≡ accepted (with_count (counted inputs.set state.count) state) true
latched_tick d state inputs fits valid latch =
    rw (accepted_gives_ruled state d (flip_flop_rule d inputs.set inputs.trip state) valid fits) (rw latch)

-- once latched
pub record StaysOn (d : ℕ) (state : TimerState) (ticks : List SetTrip) : Type 0 where
  pub on_throughout_law : outputs (flip_flop_by d) state ticks ≡ on_throughout ticks
  pub still_latched : (timer_after (flip_flop_by d) state ticks).latch ≡ true

-- Once latched, the flip-flop stays on and latched until a reset, whatever its set and trip inputs do.
pub flip_flop_stays_on_until_reset : (d : ℕ) (state : TimerState) → leb d delay_limit ≡ true → valid_timer state ≡ true
    → state.latch ≡ true → (ticks : List SetTrip) → StaysOn d state ticks
unfolding outputs timer_after
flip_flop_stays_on_until_reset d state fits valid latch [] = record { on_throughout_law = refl; still_latched = latch }
flip_flop_stays_on_until_reset d state fits valid latch (inputs ∷ rest) =
    let next = with_count (counted inputs.set state.count) state in
    let next_valid = rule_leaves_valid (flip_flop inputs.set inputs.trip) d state valid fits in
    let then = flip_flop_stays_on_until_reset d next fits next_valid latch rest in
    let tick = latched_tick d state inputs fits valid latch in
    record {
      on_throughout_law = rw (outputs, tick, then.on_throughout_law);
      still_latched = rw (timer_after, tick) then.still_latched;
    }

-- A reset makes it off and fresh, whatever its set and trip inputs are.
pub flip_flop_reset_makes_off_and_fresh : (d : ℕ) (state : TimerState) (set trip : Bool) → leb d delay_limit ≡ true
    → valid_timer state ≡ true → flip_flop_answer state d set trip true ≡ accepted fresh_timer false
flip_flop_reset_makes_off_and_fresh d state set trip fits valid = reset_makes_fresh state d (flip_flop_rule d set trip state) valid fits

-- ---- from fresh

flip_flop_from_history : (d : ℕ) → leb d delay_limit ≡ true → (earlier : List SetTrip) (state : TimerState)
    → valid_timer state ≡ true
    → state.count ≡ min (on_in_a_row (λ i. i.set) earlier) count_limit → state.latch ≡ latched_so_far d earlier
    → (ticks : List SetTrip) → outputs (flip_flop_by d) state ticks ≡ each_tick (latched_so_far d) earlier ticks
unfolding outputs each_tick latched_so_far
flip_flop_from_history d fits earlier state valid e latch [] = refl
flip_flop_from_history d fits earlier state valid e latch (inputs ∷ rest) =
    let rule = flip_flop inputs.set inputs.trip in
    let next = (by_rule rule d state).state in
    let count = counted_in_a_row (λ i. i.set) inputs earlier state.count e in
    let over = over_d_is_latest_on (λ i. i.set) d next.count (inputs ∷ earlier) (leb-true d delay_limit fits) count in
    let latched : next.latch ≡ latched_so_far d (inputs ∷ earlier) = rw (latched_so_far, add-one d, over, latch) in
    let then = flip_flop_from_history d fits (inputs ∷ earlier) next (rule_leaves_valid rule d state valid fits) count latched rest in
    rw (outputs, accepted_gives_ruled state d (by_rule rule d state) valid fits, then, latched)

-- From fresh and without reset, the flip-flop is on at a tick exactly when at that tick or an earlier one the set input was on
-- for the (d + 1)-th time in a row, or the trip input was on.
pub flip_flop_on_exactly_when_latched_so_far : (d : ℕ) → leb d delay_limit ≡ true → (ticks : List SetTrip)
    → outputs (flip_flop_by d) fresh_timer ticks ≡ each_tick (latched_so_far d) [] ticks
unfolding on_in_a_row latched_so_far
flip_flop_on_exactly_when_latched_so_far d fits ticks = flip_flop_from_history d fits [] fresh_timer refl refl refl ticks
