-- The reason that is given is the first that holds, and one always does; what it tells of the tick's outputs, and of what is
-- lacking.
-- Assumes nothing.
use Prim.Native.Nat.{ℕ, ◌+◌, ◌-◌, ◌≤◌, ◌<◌}
use native.Mathlib.Omega.{arith}
use mathlib.Core.Bool.{Bool, true, false, cond, not, ◌&&◌, ◌||◌, and-true, and-false, and_comm, false≢true}
use mathlib.Core.List.{List, [], ◌∷◌}
use mathlib.Core.Logic.{◌⊎◌, inl, inr}
use mathlib.Core.Path.{◌≡◌, refl, sym, ◌∙◌, ap}
use borrow.Author.Tests.{eqb-true, eqb-false, ltb-true, ltb-false, eq-eqb, ne_eqb, lt-ltb, le-ltb, le-leb, lt-leb}
use lib.Dec.{leb, ltb, eqb}
use Rattle.checks.proofs.Tests.{both_true}
use Rattle.phase.specs.declared.operation.Kind.{Kind}
use Rattle.phase.specs.declared.operation.Kind.TheVariants.{Off, On}
use Rattle.phase.specs.declared.operation.Timing.{Timing}
use Rattle.phase.specs.declared.operation.Timing.TheVariants.{Definite, Curve}
use Rattle.phase.specs.declared.settings.Settings.{Settings}
use Rattle.phase.specs.declared.state.PhaseState.{PhaseState}
use Rattle.phase.specs.Operation.{kind_of}
use Rattle.phase.specs.Settings.{trip_level}
use Rattle.phase.specs.Tick.{next_state, phase_start, phase_trip}
use Rattle.phase.proofs.TripLaws.{off_starts_nothing, off_trips_nothing, trip_definite, trip_curve}
use Rattle.why.specs.declared.reason.Reason.{Reason}
use Rattle.why.specs.declared.reason.Reason.TheVariants.{OperationOff, NotStarted, StartOnly, TooFewTicks, SumBelowLevel, Blocked, Tripped}
use Rattle.why.specs.Reason.{is_off, delay_by, too_few_ticks, ticks_lacking, below_by, sum_below_level, sum_lacking, holds_by, holds, reasons_for, first_that, reason_of, place_of}
use Rattle.why.specs.device.Decided.{trip_reason, sum_reason, reason_by}

-- ---- the first of a list that passes a test

-- it stands in front and passes, or what stands in front does not and it is the first of the others
abbrev pub FirstOf : (Reason → Bool) → List Reason → Reason → Type 0
FirstOf test [] r = ⊥
FirstOf test (x ∷ xs) r = ((test x ≡ true) × (x ≡ r)) ⊎ ((test x ≡ false) × FirstOf test xs r)

abbrev any_of : (Reason → Bool) → List Reason → Bool
any_of test [] = false
any_of test (x ∷ xs) = test x || any_of test xs

first_by : (test : Reason → Bool) (x : Reason) (xs : List Reason) (last : Reason) (t : Bool) → test x ≡ t
    → (any_of test xs ≡ true → FirstOf test xs (first_that test xs last)) → (t || any_of test xs) ≡ true
    → FirstOf test (x ∷ xs) (cond t x (first_that test xs last))
first_by test x xs last true e others h = inl (e, refl)
first_by test x xs last false e others h = inr (e, others h)

first_that_law : (test : Reason → Bool) (xs : List Reason) (last : Reason) → any_of test xs ≡ true → FirstOf test xs (first_that test xs last)
first_that_law test [] last h = absurd (false≢true h)
first_that_law test (x ∷ xs) last h = first_by test x xs last (test x) refl (λ k. first_that_law test xs last k) h

pub first_holds : (test : Reason → Bool) (xs : List Reason) (r : Reason) → FirstOf test xs r → test r ≡ true
first_holds test [] r f = absurd f
first_holds test (x ∷ xs) r (inl h) = rw (sym h.1) h.0
first_holds test (x ∷ xs) r (inr h) = first_holds test xs r h.1

-- there is but one
pub first_is_one : (test : Reason → Bool) (xs : List Reason) (r q : Reason) → FirstOf test xs r → FirstOf test xs q → r ≡ q
first_is_one test [] r q f g = absurd f
first_is_one test (x ∷ xs) r q (inl h) (inl k) = sym h.1 ∙ k.1
first_is_one test (x ∷ xs) r q (inl h) (inr k) = absurd (false≢true (sym k.0 ∙ h.0))
first_is_one test (x ∷ xs) r q (inr h) (inl k) = absurd (false≢true (sym h.0 ∙ k.0))
first_is_one test (x ∷ xs) r q (inr h) (inr k) = first_is_one test xs r q h.1 k.1

-- ---- an operation that is on, in tests alone

-- whether the trip is on
abbrev trips : Bool → Bool → Bool → Bool → Bool
trips start only few below = start && not only && (not few && not below)

abbrev decided : Bool → Bool → Bool → Bool → Bool → ℕ → ℕ → Reason
decided start only few below blocked n m =
    cond (not start) NotStarted
    (cond only StartOnly (cond few (TooFewTicks n) (cond below (SumBelowLevel m) (cond blocked Blocked Tripped))))

-- the reasons' tests in their order, with the trip among them
same_reason : (start only few below blocked : Bool) (n m : ℕ)
    → (let trip : Bool = trips start only few below in
    cond (not start) NotStarted
    (cond only StartOnly
    (cond few (TooFewTicks n) (cond below (SumBelowLevel m) (cond (trip && blocked) Blocked (cond trip Tripped Tripped))))))
    ≡ decided start only few below blocked n m
same_reason false only few below blocked n m = refl
same_reason true true few below blocked n m = refl
same_reason true false true below blocked n m = refl
same_reason true false false true blocked n m = refl
same_reason true false false false true n m = refl
same_reason true false false false false n m = refl

some_holds : (start only few below blocked : Bool)
    → (let trip : Bool = trips start only few below in
    (not start || (only || (few || (below || ((trip && blocked) || (trip || false)))))))
    ≡ true
some_holds false only few below blocked = refl
some_holds true true few below blocked = refl
some_holds true false true below blocked = refl
some_holds true false false true blocked = refl
some_holds true false false false true = refl
some_holds true false false false false = refl

-- 'blocked' or 'tripped': the last two
abbrev pub tells_trip : Reason → Bool
tells_trip reason = leb 6 (place_of reason)

abbrev pub tells_blocked : Reason → Bool
tells_blocked reason = eqb (place_of reason) 6

-- neither 'operation off' nor 'not started', the first two
abbrev pub tells_start : Reason → Bool
tells_start reason = leb 3 (place_of reason)

-- what a reason tells of the outputs, and of the block
pub record TellsOutputs (reason : Reason) (start trip blocked : Bool) : Type 0 where
  pub start_told : tells_start reason ≡ start
  pub trip_told : tells_trip reason ≡ trip
  pub blocked_told : tells_blocked reason ≡ trip && blocked

decided_tells : (start only few below blocked : Bool) (n m : ℕ)
    → TellsOutputs (decided start only few below blocked n m) start (trips start only few below) blocked
decided_tells false only few below blocked n m = record { start_told = refl; trip_told = refl; blocked_told = refl }
decided_tells true true few below blocked n m = record { start_told = refl; trip_told = refl; blocked_told = refl }
decided_tells true false true below blocked n m = record { start_told = refl; trip_told = refl; blocked_told = refl }
decided_tells true false false true blocked n m = record { start_told = refl; trip_told = refl; blocked_told = refl }
decided_tells true false false false true n m = record { start_told = refl; trip_told = refl; blocked_told = refl }
decided_tells true false false false false n m = record { start_told = refl; trip_told = refl; blocked_told = refl }

-- ---- the tests of a tick

not_below : (a b : ℕ) → leb a b ≡ not (ltb b a)
not_below a b = go (ltb b a) refl
  where
    go : (t : Bool) → ltb b a ≡ t → leb a b ≡ not t
    go true e = lt-leb a b (ltb-true b a e)
    go false e = le-leb a b (ltb-false b a e)

zero_or_one : (n : ℕ) → n ≤ 1 → eqb n 0 ≡ not (eqb n 1)
zero_or_one n h = go (eqb n 1) refl
  where
    go : (t : Bool) → eqb n 1 ≡ t → eqb n 0 ≡ not t
    go true e = ne_eqb n 0 (λ z. omega (arith, z, eqb-true n 1 e))
    go false e = eq-eqb n 0 (omega (arith, h, eqb-false n 1 e))

itself : (n : ℕ) → eqb n n ≡ true
itself n = eq-eqb n n refl

module _ (settings : Settings) (state : PhaseState) (g block : ℕ) (only_bit : settings.start_only ≤ 1) where
  abbrev kind : Kind
  kind = kind_of settings.operation

  abbrev start : Bool
  start = phase_start settings state g

  abbrev trip : Bool
  trip = phase_trip settings state g

  abbrev after : PhaseState
  after = next_state settings state g

  abbrev only : Bool
  only = eqb settings.start_only 1

  abbrev few : Bool
  few = too_few_ticks settings after

  abbrev below : Bool
  below = sum_below_level settings after

  abbrev blocked : Bool
  blocked = eqb block 1

  -- rule 5 of the tick, in the tests of the reasons
  on_trips : (timing : Timing) → kind ≡ On timing → trip ≡ trips start only few below
  on_trips Definite e =
      trip_definite settings state g e
      ∙ rw (e, zero_or_one settings.start_only only_bit, not_below settings.definite_delay after.run, and-true)
  on_trips (Curve rule) e =
      let full = not (ltb after.sum (trip_level settings)) in
      let enough = not (ltb after.run settings.minimum_delay) in
      trip_curve settings state g rule e
      ∙ rw (e, zero_or_one settings.start_only only_bit)
      (rw (not_below settings.minimum_delay after.run, not_below (trip_level settings) after.sum)
      (ap (λ (t : Bool). start && not only && t) (and_comm full enough)))

  on_reason_law : (timing : Timing) → kind ≡ On timing
      → reason_of settings state g block ≡ decided start only few below blocked (ticks_lacking settings after) (sum_lacking settings after)
  unfolding reason_of holds
  on_reason_law timing e =
      rw (ap is_off e, on_trips timing e, itself (ticks_lacking settings after), itself (sum_lacking settings after))
      (same_reason start only few below blocked (ticks_lacking settings after) (sum_lacking settings after))

  off_reason : kind ≡ Off → reason_of settings state g block ≡ OperationOff
  unfolding reason_of holds
  off_reason e = rw (ap is_off e)

  -- ---- the code's steps give the reason

  by_sum : (timing : Timing) → sum_reason timing settings after block
      ≡ cond (below_by (On timing) settings after) (SumBelowLevel (sum_lacking settings after)) (trip_reason block)
  by_sum Definite = refl
  by_sum (Curve rule) = refl

  decided_by : (k : Kind) → kind ≡ k → reason_by k settings start after block ≡ reason_of settings state g block
  decided_by Off e = sym (off_reason e)
  decided_by (On timing) e = rw (by_sum timing) (sym (on_reason_law timing e ∙ rw e))

  pub decided_is_reason : reason_by kind settings start after block ≡ reason_of settings state g block
  decided_is_reason = decided_by kind refl

  -- ---- "the first reason that holds", and one always does

  some_by : (k : Kind) → kind ≡ k → any_of (holds settings state g block) (reasons_for settings after) ≡ true
  unfolding holds
  some_by Off e = rw (ap is_off e)
  some_by (On timing) e =
      rw (ap is_off e, on_trips timing e, itself (ticks_lacking settings after), itself (sum_lacking settings after))
      (some_holds start only few below blocked)

  pub reason_is_first : FirstOf (holds settings state g block) (reasons_for settings after) (reason_of settings state g block)
  unfolding reason_of
  reason_is_first = first_that_law (holds settings state g block) (reasons_for settings after) Tripped (some_by kind refl)

  pub reason_holds : holds settings state g block (reason_of settings state g block) ≡ true
  reason_holds = first_holds (holds settings state g block) (reasons_for settings after) (reason_of settings state g block) reason_is_first

  -- ---- 'blocked' or 'tripped' exactly when the phase trip is on, 'off' or 'not started' exactly when the start is off,
  -- 'blocked' exactly when the phase trip is on and the block is 1

  tells_by : (k : Kind) → kind ≡ k → TellsOutputs (reason_of settings state g block) start trip blocked
  tells_by Off e =
      rw (off_reason e, off_starts_nothing settings state g e, off_trips_nothing settings state g e)
      (record { start_told = refl; trip_told = refl; blocked_told = refl })
  tells_by (On timing) e =
      rw (on_reason_law timing e, on_trips timing e)
      (decided_tells start only few below blocked (ticks_lacking settings after) (sum_lacking settings after))

  pub reason_tells_outputs : TellsOutputs (reason_of settings state g block) start trip blocked
  reason_tells_outputs = tells_by kind refl

-- ---- what is lacking

-- A reason that lacks n: `held more k` is whether it holds with k lacking where there is so much more. Some is lacking; with n more
-- it no longer holds, with any number; with less it still does, and so much less is lacking.
pub record Lacks (held : ℕ → ℕ → Bool) (n : ℕ) : Type 0 where
  pub some : 0 < n
  pub enough : (k : ℕ) → held n k ≡ false
  pub still : (more : ℕ) → more < n → held more (n - more) ≡ true

lacks : (reached due n : ℕ) → eqb n (due - reached) && ltb reached due ≡ true
    → Lacks (λ (more k : ℕ). eqb k (due - (reached + more)) && ltb (reached + more) due) n
lacks reached due n h =
    let t = both_true (eqb n (due - reached)) (ltb reached due) h in
    let all : n ≡ due - reached = eqb-true n (due - reached) t.0 in
    let low : reached < due = ltb-true reached due t.1 in
    record {
      some = omega (arith, all, low);
      enough = λ k. rw (le-ltb (reached + n) due (omega (arith, all))) (and-false (eqb k (due - (reached + n))));
      still = λ more l.
          rw (eq-eqb (n - more) (due - (reached + more)) (omega (arith, all, l)), lt-ltb (reached + more) due (omega (arith, all, l)));
    }

-- the state after the tick with so many more ticks running, or so much more sum, and all else as it is
abbrev pub more_ticks : PhaseState → ℕ → PhaseState
more_ticks state more = record { sum = state.sum; run = state.run + more; drop = state.drop; started = state.started }

abbrev pub more_sum : PhaseState → ℕ → PhaseState
more_sum state more = record { sum = state.sum + more; run = state.run; drop = state.drop; started = state.started }

module _ (settings : Settings) (state : PhaseState) (g block : ℕ) (only_bit : settings.start_only ≤ 1) (n : ℕ) where
  -- whether a reason would hold after the tick, were the state another one
  abbrev held_in : PhaseState → Reason → Bool
  held_in after reason = holds_by settings (phase_start settings state g) (phase_trip settings state g) after block reason

  pub ticks_lacking_law : reason_of settings state g block ≡ TooFewTicks n
      → Lacks (λ (more k : ℕ). held_in (more_ticks (next_state settings state g) more) (TooFewTicks k)) n
  unfolding holds
  ticks_lacking_law e =
      lacks (next_state settings state g).run (delay_by (kind_of settings.operation) settings) n
      (rw e at (reason_holds settings state g block only_bit))

  lacks_by : (kind : Kind) → let after : PhaseState = next_state settings state g in
      eqb n (sum_lacking settings after) && below_by kind settings after ≡ true
      → Lacks (λ (more k : ℕ). eqb k (sum_lacking settings (more_sum after more)) && below_by kind settings (more_sum after more)) n
  lacks_by Off h = absurd (false≢true (both_true (eqb n (sum_lacking settings (next_state settings state g))) false h).1)
  lacks_by (On Definite) h = absurd (false≢true (both_true (eqb n (sum_lacking settings (next_state settings state g))) false h).1)
  lacks_by (On (Curve rule)) h = lacks (next_state settings state g).sum (trip_level settings) n h

  pub sum_lacking_law : reason_of settings state g block ≡ SumBelowLevel n
      → Lacks (λ (more k : ℕ). held_in (more_sum (next_state settings state g) more) (SumBelowLevel k)) n
  unfolding holds
  sum_lacking_law e = lacks_by (kind_of settings.operation) (rw e at (reason_holds settings state g block only_bit))
