-- The margin between two relays at a ratio (02, E9).
use Rattle.std.specs.Prelude.{ℕ, None, cond, [], ◌∷◌, eqb, ℤ, pos, ◌-ℤ◌}
use Rattle.checks.specs.Checks.{check, lowest}
use Rattle.checks.specs.Range.{in_range}
use Rattle.phase.specs.declared.settings.Settings.{Settings}
use Rattle.grading.specs.declared.margin.Margin.{Margin}
use Rattle.grading.specs.declared.refusal.Refusal.{Refusal}
use Rattle.grading.specs.FirstTrip.{first_trip_at}
use Rattle.grading.specs.Refusal.{refusal_of, pair_refusal}
use Rattle.grading.specs.Refusals.{wrong_ratio}

-- "the signed difference, upstream minus downstream"
unfoldable pub difference_at : Settings → Settings → ℕ → ℤ
difference_at upstream downstream ratio = pos (first_trip_at upstream ratio) -ℤ pos (first_trip_at downstream ratio)

-- "a ratio from 101 to 2000"
abbrev pub lowest_ratio : ℕ
lowest_ratio = 101

abbrev pub highest_ratio : ℕ
highest_ratio = 2000

unfoldable pub margin_refusal : Settings → Settings → ℕ → Refusal
margin_refusal upstream downstream ratio =
    pair_refusal upstream downstream (lowest (check (in_range lowest_ratio highest_ratio ratio) wrong_ratio ∷ []))

-- "give the first trip tick of each and the signed difference"
abbrev pub margin_of : Settings → Settings → ℕ → Margin
margin_of upstream downstream ratio =
    record {
      refusal = refusal_of None 0;
      upstream = first_trip_at upstream ratio;
      downstream = first_trip_at downstream ratio;
      difference = difference_at upstream downstream ratio;
    }

-- a refused call's numbers are 0
abbrev pub refused_margin : Refusal → Margin
refused_margin refusal = record { refusal = refusal; upstream = 0; downstream = 0; difference = pos 0 }

-- what `margin_at` answers
unfoldable pub margin_answer : Settings → Settings → ℕ → Margin
margin_answer upstream downstream ratio =
    cond (eqb (margin_refusal upstream downstream ratio).number 0) (margin_of upstream downstream ratio)
    (refused_margin (margin_refusal upstream downstream ratio))
