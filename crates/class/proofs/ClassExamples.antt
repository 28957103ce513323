-- The class examples of document 01 that are marked P, all in one statement over one list: what the definitions give is what
-- the paper says. This crate sees both layers, so here their definitions are opened and computed.
-- Assumes nothing.
use Rattle.std.proofs.Common.{◌≡◌, ℕ, ◌*◌, List, [], ◌∷◌, Option, Some, None, refl, ap, ◌∙◌}
use Rattle.curve.specs.Constants.{constants_of}
use Rattle.curve.specs.Gain.{gain_of}
use Rattle.curve.specs.Ratio.{ratio_of}
use Rattle.curve.specs.Rounding.{rounded_up}
use Rattle.curve.specs.Time.{operate_time, reset_time}
use Rattle.phase.specs.declared.settings.Settings.{Settings}
use Rattle.jumps.specs.device.FirstTrip.{first_trip_by}
use Rattle.jumps.specs.Jump.{trip_tick, jump_answer, jump_refusal}
use Rattle.phase.specs.Operation.{kind_of}
use Rattle.phase.specs.State.{clear_state, valid}
use Rattle.phase.specs.Tick.{gain_at, started}
use Rattle.jumps.proofs.JumpMeans.{jump_trip_closed}

-- a number of the paper, or the trip tick of a jump
data Shown : Type 0 where
  number : ℕ → Shown
  trip : Option ℕ → Shown

record Example : Type 0 where
  given : Shown
  paper : Shown

abbrev example : Shown → Shown → Example
example given paper = record { given = given; paper = paper }

-- minimum delay 40, start only 0; the start current is 200, and the others play no part
abbrev class_settings : ℕ → ℕ → Settings
class_settings operation multiplier =
    record {
      operation = operation;
      start_current = 200;
      time_multiplier = multiplier;
      minimum_delay = 40;
      definite_delay = 40;
      reset_time = 60;
      start_only = 0;
    }

-- the sample whose ratio to that start current is m
abbrev sample_at : ℕ → ℕ
sample_at m = m * 200

-- the first tick with the phase trip on in a jump of so many ticks from the clear state
abbrev first_trip_of : Settings → ℕ → ℕ → Option ℕ
first_trip_of settings m count = (jump_answer settings clear_state (sample_at m) count).trip

examples : List Example
examples =
    example (number (operate_time 3 200)) (number 13500000)
    ∷ example (number (operate_time 5 1100)) (number 12000000)
    ∷ example (number (operate_time 4 200)) (number 26666667)
    ∷ example (number (operate_time 4 2000)) (number 200502)
    ∷ example (number (operate_time 9 300)) (number 3646700)
    ∷ example (number (operate_time 9 600)) (number 927415)
    ∷ example (number (reset_time 9 50)) (number 38800000)
    ∷ example (number (gain_at (class_settings 3 100) (sample_at 200))) (number 7407407)
    ∷ example (trip (first_trip_of (class_settings 3 100) 200 13501)) (trip (Some 13501))
    ∷ example (trip (first_trip_of (class_settings 3 100) 200 13500)) (trip None)
    ∷ example (trip (first_trip_of (class_settings 4 5) 2000 60000)) (trip (Some 40))
    ∷ []

abbrev AllAgree : List Example → Type 0
AllAgree [] = Unit {0}
AllAgree (e ∷ es) = (e.given ≡ e.paper) × AllAgree es

closed : (settings : Settings) (m count : ℕ) (at : Option ℕ) → jump_refusal settings clear_state count ≡ 0 → trip_tick (first_trip_by (kind_of settings.operation) (started settings clear_state (sample_at m)) settings (sample_at m) count clear_state) ≡ at → trip (first_trip_of settings m count) ≡ trip at
closed settings m count at accepted e = ap trip (jump_trip_closed settings clear_state (sample_at m) count accepted ∙ e)

class_examples : AllAgree examples
unfolding examples operate_time reset_time constants_of rounded_up gain_of ratio_of jump_refusal valid kind_of started
class_examples = (refl, (refl, (refl, (refl, (refl, (refl, (refl, (refl, (closed (class_settings 3 100) 200 13501 (Some 13501) refl refl, (closed (class_settings 3 100) 200 13500 None refl refl, (closed (class_settings 4 5) 2000 60000 (Some 40) refl refl, tt)))))))))))
