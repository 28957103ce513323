-- The ratios at which the margin between two relays is too small (02, E9), and the smallest margin.
use Rattle.std.specs.Prelude.{ℕ, None, zero, suc, Bool, cond, ◌&&◌, List, [], ◌∷◌, ◌++◌, map, leb, eqb, ℤ, pos, length, get_or, drop}
use Rattle.std.specs.Int.Signed.{lt_z, le_z}
use Rattle.checks.specs.Checks.{check, lowest}
use Rattle.phase.specs.declared.settings.Settings.{Settings}
use Rattle.grading.specs.declared.margins.Graded.{Graded}
use Rattle.grading.specs.declared.refusal.Refusal.{Refusal}
use Rattle.grading.specs.Margin.{lowest_ratio, difference_at}
use Rattle.grading.specs.Refusal.{refusal_of, pair_refusal}
use Rattle.grading.specs.Refusals.{short_list}

-- so many whole numbers, from `low` on
unfoldable pub up_from : ℕ → ℕ → List ℕ
up_from low zero = []
up_from low (suc n) = low ∷ up_from (suc low) n

-- those of a list that pass a test, in its order
unfoldable pub those : (ℕ → Bool) → List ℕ → List ℕ
those test [] = []
those test (x ∷ xs) = cond (test x) (x ∷ those test xs) (those test xs)

-- the smallest of some numbers; of none 0, which nothing reads
unfoldable pub minimum : List ℤ → ℤ
minimum [] = pos 0
minimum (z ∷ []) = z
minimum (z ∷ (y ∷ zs)) = cond (le_z z (minimum (y ∷ zs))) z (minimum (y ∷ zs))

-- "1,900 entries": one for each ratio from 101 to 2000
abbrev pub ratio_count : ℕ
ratio_count = 1900

abbrev pub ratios : List ℕ
ratios = up_from lowest_ratio ratio_count

-- "the ratios where it is below a wanted signed margin, in rising order, each once"
unfoldable pub too_close : Settings → Settings → ℤ → List ℕ
too_close upstream downstream wanted = those (λ ratio. lt_z (difference_at upstream downstream ratio) wanted) ratios

-- "the smallest difference"
unfoldable pub smallest : Settings → Settings → ℤ
smallest upstream downstream = minimum (map (difference_at upstream downstream) ratios)

-- equal, as a test
abbrev pub same_z : ℤ → ℤ → Bool
same_z a b = le_z a b && le_z b a

-- "the lowest ratio that has it"
unfoldable pub smallest_at : Settings → Settings → ℕ
smallest_at upstream downstream =
    get_or (those (λ ratio. same_z (difference_at upstream downstream ratio) (smallest upstream downstream)) ratios) 0 0

unfoldable pub margins_refusal : Settings → Settings → ℕ → Refusal
margins_refusal upstream downstream room =
    pair_refusal upstream downstream (lowest (check (leb ratio_count room) short_list ∷ []))

-- what `margins` answers, and what the lent list holds afterwards
pub record MarginsAnswer : Type 0 where
  pub answer : Graded
  pub list : List ℕ

-- "answer how many, and the smallest difference with the lowest ratio that has it"; "Entries past the listed ones stay."
abbrev pub margins_of : Settings → Settings → ℤ → List ℕ → MarginsAnswer
margins_of upstream downstream wanted list =
    let found : List ℕ = too_close upstream downstream wanted in
    record {
      answer = record {
        refusal = refusal_of None 0;
        count = length found;
        smallest = smallest upstream downstream;
        ratio = smallest_at upstream downstream;
      };
      list = found ++ drop (length found) list;
    }

-- a refused call's numbers are 0, and its list is untouched
abbrev pub refused_margins : Refusal → List ℕ → MarginsAnswer
refused_margins refusal list = record { answer = record { refusal = refusal; count = 0; smallest = pos 0; ratio = 0 }; list = list }

unfoldable pub margins_answer : Settings → Settings → ℤ → List ℕ → MarginsAnswer
margins_answer upstream downstream wanted list =
    cond (eqb (margins_refusal upstream downstream (length list)).number 0) (margins_of upstream downstream wanted list)
    (refused_margins (margins_refusal upstream downstream (length list)) list)
