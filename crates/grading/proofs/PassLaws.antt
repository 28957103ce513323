-- The pass over the ratios: what holds before each of them, and what it comes to.
-- Assumes nothing.
use Prim.Native.Nat.{ℕ, suc, ◌+◌, ◌-◌, ◌≤◌, ◌<◌}
use native.Mathlib.Numerals.{add-one}
use native.Mathlib.Omega.{arith}
use mathlib.Core.Bool.{Bool, true, false, cond}
use mathlib.Core.List.{List, [], ◌∷◌, ◌++◌, append-nil}
use mathlib.Core.Path.{◌≡◌, refl, sym, ◌∙◌, ap}
use lib.IntN.{ℤ}
use lib.ListN.{length, get_or, drop, set, length-append, length-drop}
use lib.Seq.{drop-cons, append_snoc, set-append_seam}
use lib.Signed.{lt_z}
use mir.Syntax.{w64}
use mir.Val.{SFits, to_z, of_z}
use mir.ValLaws.{to_z-of_z}
use Rattle.std.specs.Prelude.{Option, Some, None, unwrap_or}
use Rattle.phase.specs.declared.settings.Settings.{Settings}
use Rattle.grading.specs.declared.margins.Smallest.{Smallest}
use Rattle.grading.specs.Margin.{lowest_ratio, highest_ratio, difference_at}
use Rattle.grading.specs.Margins.{up_from, those, ratio_count, too_close, smallest, smallest_at, margins_of, MarginsAnswer}
use Rattle.grading.specs.Refusal.{refusal_of}
use Rattle.grading.specs.device.Pass.{Counted, counted, smaller_of}
use Rattle.grading.proofs.ListLaws.{up_next, those_one, those_append, those_at_most}
use Rattle.grading.proofs.SmallestLaws.{SmallestOf, first_is_smallest, smaller_found, none_found, smallest_alone, smallest_is}

-- ---- the list

-- what is listed of the ratios before this one
abbrev pub listed_before : (ℕ → ℤ) → ℤ → ℕ → List ℕ
listed_before d wanted ratio = those (λ m. lt_z (d m) wanted) (up_from lowest_ratio (ratio - lowest_ratio))

listed_next : (d : ℕ → ℤ) (wanted : ℤ) (ratio : ℕ) → lowest_ratio ≤ ratio → listed_before d wanted (ratio + 1) ≡ listed_before d wanted ratio ++ cond (lt_z (d ratio) wanted) (ratio ∷ []) []
listed_next d wanted ratio low =
    let test : ℕ → Bool = λ m. lt_z (d m) wanted in
    let more : ratio + 1 - lowest_ratio ≡ suc (ratio - lowest_ratio) = omega arith in
    let last : lowest_ratio + (ratio - lowest_ratio) ≡ ratio = omega arith in
    ap (λ (n : ℕ). those test (up_from lowest_ratio n)) more
    ∙ ap (those test) (up_next lowest_ratio (ratio - lowest_ratio))
    ∙ those_append test (up_from lowest_ratio (ratio - lowest_ratio)) _
    ∙ ap (λ (m : ℕ). listed_before d wanted ratio ++ those test (m ∷ [])) last
    ∙ ap (λ (xs : List ℕ). listed_before d wanted ratio ++ xs) (those_one test ratio)

-- an entry after those that were listed
store_next : (xs list : List ℕ) (ratio : ℕ) → length xs < length list → set (xs ++ drop (length xs) list) (length xs) ratio ≡ xs ++ (ratio ∷ []) ++ drop (length xs + 1) list
store_next xs list ratio h =
    rw (drop-cons list (length xs) 0 h, set-append_seam xs (get_or list (length xs) 0) (drop (suc (length xs)) list) ratio, add-one)
    (sym (append_snoc xs ratio (drop (suc (length xs)) list)))

-- entries at the front of a list, the others as they were
abbrev pub laid : List ℕ → List ℕ → Counted
laid given xs = record { count = length xs; list = xs ++ drop (length xs) given }

lay_next : (b : Bool) (given xs : List ℕ) (ratio : ℕ) → length xs < length given → counted (xs ++ drop (length xs) given) (length xs) ratio b ≡ laid given (xs ++ cond b (ratio ∷ []) [])
lay_next true given xs ratio h = rw (length-append xs (ratio ∷ []), store_next xs given ratio h)
lay_next false given xs ratio h = rw (append-nil xs)

laid_length : (given xs : List ℕ) → length xs ≤ length given → length (laid given xs).list ≡ length given
laid_length given xs h = rw (length-append xs (drop (length xs) given), length-drop (length xs) given) (omega arith)

-- ---- the smallest

-- whether the ratio at hand is the smallest so far: the first is, then where its difference is smaller. As the code finds it: both
-- differences go through their 64 bits
abbrev pub is_smaller : Option Smallest → ℤ → Bool
is_smaller None z = true
is_smaller (Some before) z = lt_z (to_z w64 (of_z w64 z)) (to_z w64 (of_z w64 before.difference))

-- that of those before fits its 64 bits, where there is one
abbrev pub BeforeFits : Option Smallest → Type 0
BeforeFits None = Unit {0}
BeforeFits (Some before) = SFits w64 before.difference

pub smaller_by : (before : Option Smallest) (least : Smallest) (z : ℤ) (ratio : ℕ) (t : Bool) → SFits w64 z → BeforeFits before → is_smaller before z ≡ t → cond t (record { difference = to_z w64 (of_z w64 z); ratio = ratio }) (unwrap_or before least) ≡ smaller_of before z ratio
smaller_by None least z ratio t fits fit e = rw (sym e, to_z-of_z w64 z fits)
smaller_by (Some before) least z ratio t fits fit e = rw (sym e, to_z-of_z w64 z fits, to_z-of_z w64 before.difference fit)

-- ---- the invariant

-- none before the first ratio, and then the smallest of those before
abbrev pub SoFar : (ℕ → ℤ) → ℕ → Option Smallest → Type 0
SoFar d ratio None = ratio ≡ lowest_ratio
SoFar d ratio (Some before) = SmallestOf d lowest_ratio ratio before.difference before.ratio

pub record PassTurn (d : ℕ → ℤ) (wanted : ℤ) (given : List ℕ) (ratio n : ℕ) (before : Option Smallest) (now : List ℕ) : Type 0 where
  pub low : lowest_ratio ≤ ratio
  pub high : ratio ≤ highest_ratio + 1
  pub listed : record { count = n; list = now } ≡ laid given (listed_before d wanted ratio)
  pub smallest : SoFar d ratio before

module _ (d : ℕ → ℤ) (wanted : ℤ) (given : List ℕ) where
  pub pass_begins : PassTurn d wanted given lowest_ratio 0 None given
  unfolding up_from those
  pass_begins = record { low = omega arith; high = omega arith; listed = refl; smallest = refl }

  -- ---- one ratio on

  smallest_next : (ratio : ℕ) (before : Option Smallest) → SoFar d ratio before → SoFar d (suc ratio) (Some (smaller_of before (d ratio) ratio))
  smallest_next ratio None first = first_is_smallest d lowest_ratio ratio (sym first)
  smallest_next ratio (Some before) found = go (lt_z (d ratio) before.difference) refl
    where
      go : (b : Bool) → lt_z (d ratio) before.difference ≡ b → SoFar d (suc ratio) (Some (cond b (record { difference = d ratio; ratio = ratio }) before))
      go true q = smaller_found d lowest_ratio ratio _ _ found q
      go false q = none_found d lowest_ratio ratio _ _ found q

  module _ (ratio n : ℕ) (before : Option Smallest) (now : List ℕ) (turn : PassTurn d wanted given ratio n before now) (room : ratio_count ≤ length given) where
    few : length (listed_before d wanted ratio) ≤ ratio - lowest_ratio
    few = those_at_most (λ m. lt_z (d m) wanted) lowest_ratio (ratio - lowest_ratio)

    pub pass_keeps_length : length now ≡ length given
    pass_keeps_length =
        ap (λ (c : Counted). length c.list) turn.listed
        ∙ laid_length given (listed_before d wanted ratio) (omega (arith, few, turn.high))

    pub place_within : ratio ≤ highest_ratio → n < length now
    place_within going =
        let count : n ≡ length (listed_before d wanted ratio) = ap (λ (c : Counted). c.count) turn.listed in
        omega (arith, few, count, pass_keeps_length)

    pub pass_again : ratio ≤ highest_ratio → (after : Smallest) (m : ℕ) (list : List ℕ) → after ≡ smaller_of before (d ratio) ratio → record { count = m; list = list } ≡ counted now n ratio (lt_z (d ratio) wanted) → PassTurn d wanted given (ratio + 1) m (Some after) list
    pass_again going after m list e f =
        record {
          low = omega (arith, turn.low);
          high = omega arith;
          listed = f
              ∙ ap (λ (c : Counted). counted c.list c.count ratio (lt_z (d ratio) wanted)) turn.listed
              ∙ lay_next (lt_z (d ratio) wanted) given (listed_before d wanted ratio) ratio (omega (arith, few))
              ∙ ap (laid given) (sym (listed_next d wanted ratio turn.low));
          smallest = rw (e, add-one) (smallest_next ratio before turn.smallest);
        }

-- ---- at the end

-- "the smallest difference with the lowest ratio that has it": it is one of them, none is smaller, and no lower ratio has it
pub smallest_means : (upstream downstream : Settings) → SmallestOf (difference_at upstream downstream) lowest_ratio (highest_ratio + 1) (smallest upstream downstream) (smallest_at upstream downstream)
unfolding smallest smallest_at
smallest_means upstream downstream = smallest_is (difference_at upstream downstream) lowest_ratio ratio_count (omega arith) _ refl

abbrev pub answer_of : ℤ → ℕ → Counted → MarginsAnswer
answer_of z at c = record { answer = record { refusal = refusal_of None 0; count = c.count; smallest = z; ratio = at }; list = c.list }

module _ (upstream downstream : Settings) (wanted : ℤ) (given : List ℕ) where
  all_listed : (ratio : ℕ) → ratio ≡ highest_ratio + 1 → listed_before (difference_at upstream downstream) wanted ratio ≡ too_close upstream downstream wanted
  unfolding too_close
  all_listed ratio e = rw e

  pub pass_ends : (ratio n : ℕ) (before : Smallest) (now : List ℕ) → PassTurn (difference_at upstream downstream) wanted given ratio n (Some before) now → highest_ratio < ratio → answer_of before.difference before.ratio (record { count = n; list = now }) ≡ margins_of upstream downstream wanted given
  pass_ends ratio n before now turn over =
      let last : ratio ≡ highest_ratio + 1 = omega (arith, turn.high, over) in
      let found : SmallestOf (difference_at upstream downstream) lowest_ratio (highest_ratio + 1) before.difference before.ratio = rw last at turn.smallest in
      let (z, at) = smallest_alone (difference_at upstream downstream) lowest_ratio (highest_ratio + 1) _ _ _ _ found (smallest_means upstream downstream) in
      rw (z, at) (ap (answer_of (smallest upstream downstream) (smallest_at upstream downstream)) (turn.listed ∙ ap (laid given) (all_listed ratio last)))
