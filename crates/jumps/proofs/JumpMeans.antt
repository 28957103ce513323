-- A jump's trip tick as a number, and the closed form at one number.
-- Assumes nothing.
use Prim.Native.Nat.{ℕ, zero, suc, ◌<◌}
use native.Mathlib.Omega.{arith}
use mathlib.Core.Bool.{Bool, true, false, cond}
use mathlib.Core.Path.{◌≡◌, refl, ◌∙◌, ap}
use lib.Dec.{eqb}
use Rattle.jumps.specs.declared.jump.Jumped.{Jumped}
use Rattle.std.specs.Prelude.{Option, Some, None}
use Rattle.phase.specs.declared.settings.Settings.{Settings}
use Rattle.phase.specs.declared.state.PhaseState.{PhaseState}
use Rattle.jumps.specs.Jump.{first_trip, trip_tick, trip_number, jump_refusal, refused_jump, jump_answer, jump_number}
use Rattle.phase.specs.Operation.{kind_of}
use Rattle.phase.specs.Tick.{started}
use Rattle.jumps.specs.device.FirstTrip.{first_trip_by}
use Rattle.jumps.proofs.JumpAccepted.{jump_accepted, jump_passed}
use Rattle.jumps.proofs.FirstTrips.{first_trip_closed}

abbrev pub trip_of : Jumped → Option ℕ
trip_of jumped = jumped.trip

pub named : (n t : ℕ) → trip_tick n ≡ Some t → (n ≡ t) × (0 < t)
named zero t e = absurd (let z : ◌≡◌ {A = ℕ} 0 1 = cc in omega arith)
named (suc n) t e = let s : suc n ≡ t = cc in (s, omega arith)

pub unnamed : (n : ℕ) → trip_tick n ≡ None → n ≡ 0
unnamed zero e = refl
unnamed (suc n) e = cc

pub above_none : (n : ℕ) → (n ≡ 0 → ⊥) → Some n ≡ trip_tick n
above_none zero h = absurd (h refl)
above_none (suc n) h = refl

trip_number_law : (n : ℕ) → trip_number (trip_tick n) ≡ n
unfolding trip_number
trip_number_law zero = refl
trip_number_law (suc n) = refl

number_of : (b : Bool) (n refusal : ℕ) (state after : PhaseState) → trip_number (cond b (record { refusal = 0; state = after; trip = trip_tick n }) (refused_jump refusal state)).trip ≡ cond b n 0
unfolding trip_number
number_of true n refusal state after = trip_number_law n
number_of false n refusal state after = refl

jump_number_law : (settings : Settings) (state : PhaseState) (g count : ℕ) → trip_number (jump_answer settings state g count).trip ≡ jump_number settings state g count
unfolding jump_answer jump_number
jump_number_law settings state g count =
    number_of (eqb (jump_refusal settings state count) 0) (first_trip settings g count state) (jump_refusal settings state count) state _

-- an answer and its number
pub with_number : (settings : Settings) (state : PhaseState) (g count : ℕ) (answer : Jumped) → answer ≡ jump_answer settings state g count → (answer ≡ jump_answer settings state g count) × (trip_number answer.trip ≡ jump_number settings state g count)
with_number settings state g count answer e =
    (e, ap (λ (jumped : Jumped). trip_number jumped.trip) e ∙ jump_number_law settings state g count)

-- the closed form at one number, where walking its ticks would take too long
pub jump_trip_closed : (settings : Settings) (state : PhaseState) (g count : ℕ) → jump_refusal settings state count ≡ 0 → (jump_answer settings state g count).trip ≡ trip_tick (first_trip_by (kind_of settings.operation) (started settings state g) settings g count state)
jump_trip_closed settings state g count accepted =
    ap trip_of (jump_accepted settings state g count accepted)
    ∙ ap trip_tick (first_trip_closed settings g count state (jump_passed settings state count accepted).0)
