-- What an accepted explanation tells, and what it and a refused one answer.
-- Assumes nothing.
use Prim.Native.Nat.{ℕ, ◌≤◌}
use mathlib.Core.Bool.{Bool, true, false, cond}
use mathlib.Core.List.{[], ◌∷◌, map}
use mathlib.Core.Path.{◌≡◌, refl, sym, ◌∙◌, ap}
use borrow.Author.Tests.{eq-eqb, ne_eqb, le-leb}
use lib.Dec.{leb, eqb}
use Rattle.std.specs.Prelude.{Result, Ok, Err}
use Rattle.checks.specs.Checks.{check, first_failed, lowest}
use Rattle.checks.proofs.LowestLaws.{IsLowest, lowest_is_least}
use Rattle.phase.specs.declared.operation.Kind.{Kind}
use Rattle.phase.specs.declared.settings.Settings.{Settings}
use Rattle.phase.specs.declared.state.PhaseState.{PhaseState}
use Rattle.phase.specs.declared.tick.Ticked.{Ticked}
use Rattle.phase.specs.Operation.{kind_of}
use Rattle.phase.specs.Settings.{settings_refusal}
use Rattle.phase.specs.State.{valid}
use Rattle.phase.specs.Tick.{phase_checks, tick_refusal, tick_of, tick_answer}
use Rattle.phase.proofs.Accepted.{phase_passed, phase_allowed, phase_tick_accepted, tick_accepted}
use Rattle.why.specs.declared.reason.Reason.{Reason}
use Rattle.why.specs.declared.reason.Reason.TheVariants.{TooFewTicks, SumBelowLevel}
use Rattle.why.specs.Reason.{holds_by, holds, reasons_for, reason_of, place_of}
use Rattle.why.specs.Answer.{why_checks, why_refusal, why_answer, explained_numbers, reason_numbers, refused_numbers, why_numbers}
use Rattle.why.specs.Refusals.{wrong_block}
use Rattle.why.specs.device.Decided.{reason_by}
use Rattle.why.proofs.ReasonLaws.{decided_is_reason, FirstOf, reason_is_first, TellsOutputs, reason_tells_outputs, Lacks, more_ticks, more_sum, ticks_lacking_law, sum_lacking_law}

-- ---- refusals

-- the checks stand in the order of their numbers
pub why_refusal_lowest : (settings : Settings) (state : PhaseState) (block : ℕ)
    → IsLowest (why_refusal settings state block) (why_checks settings state block)
unfolding why_refusal
why_refusal_lowest settings state block = lowest_is_least (why_checks settings state block) refl

-- the refusal from that of its own check
pub why_refusal_by_parts : (settings : Settings) (state : PhaseState) (block own all : ℕ)
    → own ≡ lowest (check (leb block 1) wrong_block ∷ []) → all ≡ first_failed (phase_checks settings state) own
    → all ≡ why_refusal settings state block
unfolding why_refusal
why_refusal_by_parts settings state block own all e f = f ∙ ap (first_failed (phase_checks settings state)) e

module _ (settings : Settings) (state : PhaseState) (block : ℕ) (e : why_refusal settings state block ≡ 0) where
  -- a tick is accepted where it is explained
  pub why_tick_accepted : tick_refusal settings state ≡ 0
  unfolding why_refusal
  why_tick_accepted = phase_tick_accepted settings state (lowest (check (leb block 1) wrong_block ∷ [])) e

  pub start_only_bit : settings.start_only ≤ 1
  unfolding why_refusal
  start_only_bit = (phase_passed settings state _ e).0.only

-- accepted settings, a valid state and a right block are not refused
pub why_allowed : (settings : Settings) (state : PhaseState) (block : ℕ)
    → settings_refusal settings ≡ 0 → valid settings state ≡ true → block ≤ 1 → why_refusal settings state block ≡ 0
unfolding why_refusal
why_allowed settings state block e v b = rw (le-leb block 1 b) (phase_allowed settings state e v)

-- ---- the answers

answer_numbers : (t : Bool) (reason : Reason) (refusal : ℕ)
    → explained_numbers (cond t (Ok reason) (Err refusal)) ≡ cond t (reason_numbers reason) (refused_numbers refusal)
answer_numbers true reason refusal = refl
answer_numbers false reason refusal = refl

-- an answer and its numbers
pub with_numbers : (settings : Settings) (state : PhaseState) (g block : ℕ) (answer : Result Reason ℕ) → answer ≡ why_answer settings state g block
    → (answer ≡ why_answer settings state g block) × (explained_numbers answer ≡ why_numbers settings state g block)
unfolding why_answer why_numbers
with_numbers settings state g block answer e =
    let refusal = why_refusal settings state block in
    (e, ap explained_numbers e ∙ answer_numbers (eqb refusal 0) (reason_of settings state g block) refusal)

pub why_accepted : (settings : Settings) (state : PhaseState) (g block : ℕ) → why_refusal settings state block ≡ 0
    → why_answer settings state g block ≡ Ok (reason_of settings state g block)
unfolding why_answer
why_accepted settings state g block e = rw (eq-eqb _ 0 e)

pub why_refused : (settings : Settings) (state : PhaseState) (g block n : ℕ) → n ≡ why_refusal settings state block → (n ≡ 0 → ⊥)
    → why_answer settings state g block ≡ Err n
unfolding why_answer
why_refused settings state g block n e h = rw (ne_eqb _ 0 (λ z. h (e ∙ z))) (ap Err (sym e))

-- an accepted answer from its parts
pub why_by_parts : (settings : Settings) (state : PhaseState) (g block : ℕ) (kind : Kind) (ticked : Ticked) (reason : Reason)
    → why_refusal settings state block ≡ 0 → kind ≡ kind_of settings.operation → ticked ≡ tick_answer settings state g
    → reason ≡ reason_by kind settings ticked.start ticked.state block → Ok reason ≡ why_answer settings state g block
why_by_parts settings state g block kind ticked reason e k t r =
    let accepted : ticked ≡ tick_of settings state g = t ∙ tick_accepted settings state g (why_tick_accepted settings state block e) in
    let decided = decided_is_reason settings state g block (start_only_bit settings state block e) in
    let steps : reason ≡ reason_of settings state g block = rw (r, k, accepted) decided in
    ap Ok steps ∙ sym (why_accepted settings state g block e)

-- ---- E2

-- the places are 1 to 7, in the order of the reasons
pub places_in_order : (settings : Settings) (after : PhaseState) → map place_of (reasons_for settings after) ≡ 1 ∷ 2 ∷ 3 ∷ 4 ∷ 5 ∷ 6 ∷ 7 ∷ []
places_in_order settings after = refl

-- a reason is the true one of a tick, by what a call of the tick answered
pub record TrueReason (settings : Settings) (state : PhaseState) (g block : ℕ) (ticked : Ticked) (reason : Reason) : Type 0 where
  pub told : why_answer settings state g block ≡ Ok reason
  pub first : FirstOf (holds_by settings ticked.start ticked.trip ticked.state block) (reasons_for settings ticked.state) reason
  pub outputs : TellsOutputs reason ticked.start ticked.trip (eqb block 1)
  pub ticks : (n : ℕ) → reason ≡ TooFewTicks n
      → Lacks (λ (more k : ℕ). holds_by settings ticked.start ticked.trip (more_ticks ticked.state more) block (TooFewTicks k)) n
  pub sum : (n : ℕ) → reason ≡ SumBelowLevel n
      → Lacks (λ (more k : ℕ). holds_by settings ticked.start ticked.trip (more_sum ticked.state more) block (SumBelowLevel k)) n

pub explained_truly : (settings : Settings) (state : PhaseState) (g block : ℕ) → why_refusal settings state block ≡ 0
    → TrueReason settings state g block (tick_answer settings state g) (reason_of settings state g block)
unfolding holds
explained_truly settings state g block e =
    let bit = start_only_bit settings state block e in
    rw (tick_accepted settings state g (why_tick_accepted settings state block e))
    (record {
      told = why_accepted settings state g block e;
      first = reason_is_first settings state g block bit;
      outputs = reason_tells_outputs settings state g block bit;
      ticks = λ n. ticks_lacking_law settings state g block bit n;
      sum = λ n. sum_lacking_law settings state g block bit n;
    })
