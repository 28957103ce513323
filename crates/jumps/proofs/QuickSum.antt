-- Demand 3, the quick sum: a jump over many equal ticks agrees with as many calls of `tick`.
-- Assumes nothing.
use Prim.Native.Nat.{ℕ, zero, suc}
use native.Mathlib.Omega.{arith}
use mathlib.Core.Bool.{Bool, false}
use mathlib.Core.Path.{◌≡◌, sym, ◌∙◌, ap}
use Rattle.jumps.specs.declared.jump.Jumped.{Jumped}
use Rattle.std.specs.Prelude.{Some, None}
use Rattle.phase.specs.declared.settings.Settings.{Settings}
use Rattle.phase.specs.declared.state.PhaseState.{PhaseState}
use Rattle.phase.specs.declared.tick.Ticked.{Ticked}
use Rattle.jumps.specs.Jump.{first_of, first_trip, trip_tick, jump_refusal, jump_answer}
use Rattle.phase.specs.Tick.{tick_refusal, tick_answer}
use Rattle.phase.specs.Ticks.{trip_at, always, state_after}
use Rattle.phase.proofs.Accepted.{tick_accepted}
use Rattle.jumps.proofs.JumpAccepted.{jump_accepted, jump_tick_accepted}
use Rattle.jumps.proofs.FirstOfLaws.{FirstAt, Never, first_same, none_means, first_means, first_is, never_is}
use Rattle.jumps.proofs.JumpMeans.{trip_of, named, unnamed, above_none}
use Rattle.phase.proofs.KeepsValid.{ticks_keep_accepted}
use Rattle.phase.proofs.Walk.{phase_after_none, phase_after_next}

-- ---- the statement

-- the state after n calls of `tick`, each from the state that the one before gave
abbrev pub calls_after : Settings → ℕ → ℕ → PhaseState → PhaseState
calls_after settings g zero state = state
calls_after settings g (suc n) state = (tick_answer settings (calls_after settings g n state) g).state

-- the trip output of call t; the calls count from 1
abbrev pub call_trips : Settings → ℕ → PhaseState → ℕ → Bool
call_trips settings g state zero = false
call_trips settings g state (suc k) = (tick_answer settings (calls_after settings g k state) g).trip

-- an accepted jump: no call is refused, it ends in the state that the calls end in, it names tick t exactly if t is the first
-- call whose trip is on, and none exactly if no call of the count has it on
pub record QuickSum (settings : Settings) (state : PhaseState) (g count : ℕ) : Type 0 where
  pub accepted : (n : ℕ) → tick_refusal settings (calls_after settings g n state) ≡ 0
  pub ends : (jump_answer settings state g count).state ≡ calls_after settings g count state
  pub names : (t : ℕ) → (jump_answer settings state g count).trip ≡ Some t → FirstAt (call_trips settings g state) count t
  pub first : (t : ℕ) → FirstAt (call_trips settings g state) count t → (jump_answer settings state g count).trip ≡ Some t
  pub none : (jump_answer settings state g count).trip ≡ None → Never (call_trips settings g state) count
  pub never : Never (call_trips settings g state) count → (jump_answer settings state g count).trip ≡ None

-- ---- the calls are the walked ticks

calls_are_ticks : (settings : Settings) (g n : ℕ) (state : PhaseState) → tick_refusal settings state ≡ 0 → calls_after settings g n state ≡ state_after settings g n state
calls_are_ticks settings g zero state e = sym (phase_after_none settings state (always g))
calls_are_ticks settings g (suc n) state e =
    ap (λ (before : PhaseState). (tick_answer settings before g).state) (calls_are_ticks settings g n state e)
    ∙ ap (λ (answer : Ticked). answer.state) (tick_accepted settings (state_after settings g n state) g (ticks_keep_accepted settings g n state e))
    ∙ sym (phase_after_next settings state (always g) n)

trip_is_called : (settings : Settings) (state : PhaseState) (g k : ℕ) → tick_refusal settings state ≡ 0 → trip_at settings state (always g) (suc k) ≡ call_trips settings g state (suc k)
trip_is_called settings state g k e =
    sym
    (ap (λ (before : PhaseState). (tick_answer settings before g).trip) (calls_are_ticks settings g k state e)
    ∙ ap (λ (answer : Ticked). answer.trip) (tick_accepted settings (state_after settings g k state) g (ticks_keep_accepted settings g k state e)))

jump_trip_called : (settings : Settings) (state : PhaseState) (g count : ℕ) → jump_refusal settings state count ≡ 0 → (jump_answer settings state g count).trip ≡ trip_tick (first_of (call_trips settings g state) count)
unfolding first_trip
jump_trip_called settings state g count e =
    ap trip_of (jump_accepted settings state g count e)
    ∙ ap trip_tick (first_same (trip_at settings state (always g)) (call_trips settings g state) count (λ k. trip_is_called settings state g k (jump_tick_accepted settings state count e)))

-- ---- demand 3

pub quick_sum_agrees : (settings : Settings) (state : PhaseState) (g count : ℕ) → jump_refusal settings state count ≡ 0 → QuickSum settings state g count
quick_sum_agrees settings state g count e =
    let test = call_trips settings g state in
    let found = first_of test count in
    let answer = jump_trip_called settings state g count e in
    let tick_ok = jump_tick_accepted settings state count e in
    record {
      accepted = λ n. rw (calls_are_ticks settings g n state tick_ok) (ticks_keep_accepted settings g n state tick_ok);
      ends = ap (λ (jumped : Jumped). jumped.state) (jump_accepted settings state g count e) ∙ sym (calls_are_ticks settings g count state tick_ok);
      names = λ t q. let n = named found t (sym answer ∙ q) in first_means test count t n.1 n.0;
      first = λ t f. answer ∙ ap trip_tick (first_is test count t f) ∙ sym (above_none t (λ z. absurd (let low = f.low in omega arith)));
      none = λ q. none_means test count (unnamed found (sym answer ∙ q));
      never = λ h. answer ∙ ap trip_tick (never_is test count h);
    }
