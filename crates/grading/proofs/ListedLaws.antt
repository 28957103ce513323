-- What is listed: exactly the ratios whose difference is below the wanted margin, in rising order, each once; and more of them, if
-- more is wanted.
-- Assumes nothing.
use Prim.Native.Nat.{ℕ, zero, suc, ◌+◌, ◌≤◌, ◌<◌}
use native.Mathlib.Nat.{eq-or-lt_of_le}
use native.Mathlib.Omega.{arith}
use mathlib.Core.Bool.{Bool, true, false, cond, false≢true}
use mathlib.Core.List.{List, [], ◌∷◌}
use mathlib.Core.Logic.{◌⊎◌, inl, inr, ⊎_elim}
use mathlib.Core.Path.{◌≡◌, refl, sym, ◌∙◌, ap}
use lib.IntN.{ℤ}
use lib.ListN.{length}
use lib.Signed.{lt_z, le_z}
use Rattle.phase.specs.declared.settings.Settings.{Settings}
use Rattle.grading.specs.Margin.{lowest_ratio, highest_ratio, difference_at}
use Rattle.grading.specs.Margins.{up_from, those, ratio_count, ratios, too_close}
use Rattle.grading.proofs.ListLaws.{those_no_more}
use Rattle.grading.proofs.SignedLaws.{less_then_le}

-- ---- exactly those

-- n is one of the entries
abbrev pub OneOf : ℕ → List ℕ → Type 0
OneOf n [] = ⊥
OneOf n (x ∷ xs) = (n ≡ x) ⊎ OneOf n xs

one_of_cond : (b : Bool) (n x : ℕ) (xs : List ℕ) → OneOf n (cond b (x ∷ xs) xs) → ((n ≡ x) × (b ≡ true)) ⊎ OneOf n xs
one_of_cond true n x xs (inl e) = inl (e, refl)
one_of_cond true n x xs (inr m) = inr m
one_of_cond false n x xs m = inr m

cond_has : (b : Bool) (n x : ℕ) (xs : List ℕ) → OneOf n xs → OneOf n (cond b (x ∷ xs) xs)
cond_has true n x xs m = inr m
cond_has false n x xs m = m

those_pass : (test : ℕ → Bool) (low count n : ℕ) → OneOf n (those test (up_from low count)) → (low ≤ n) × (n < low + count) × (test n ≡ true)
unfolding up_from those
those_pass test low zero n m = absurd m
those_pass test low (suc count) n m =
    ⊎_elim
    (λ here. (omega (arith, here.0), omega (arith, here.0), ap test here.0 ∙ here.1))
    (λ later. let (from, to, passes) = those_pass test (suc low) count n later in (omega (arith, from), omega (arith, to), passes))
    (one_of_cond (test low) n low _ m)

passing_is_there : (test : ℕ → Bool) (low count n : ℕ) → low ≤ n → n < low + count → test n ≡ true → OneOf n (those test (up_from low count))
unfolding up_from those
passing_is_there test low zero n from to passes = absurd (omega arith)
passing_is_there test low (suc count) n from to passes =
    ⊎_elim (λ same. first (test low) (ap test same ∙ passes) (sym same)) (λ later. cond_has (test low) n low _ (passing_is_there test (suc low) count n later (omega arith) passes)) (eq-or-lt_of_le from)
  where
    first : (b : Bool) → b ≡ true → n ≡ low → OneOf n (cond b (low ∷ those test (up_from (suc low) count)) (those test (up_from (suc low) count)))
    first true e same = inl same
    first false e same = absurd (false≢true e)

-- ---- in rising order, each once

-- from `low` on, each greater than the one before
abbrev pub RisesFrom : ℕ → List ℕ → Type 0
RisesFrom low [] = Unit {0}
RisesFrom low (x ∷ xs) = (low ≤ x) × RisesFrom (suc x) xs

rises_sooner : (low more : ℕ) (xs : List ℕ) → low ≤ more → RisesFrom more xs → RisesFrom low xs
rises_sooner low more [] h r = tt
rises_sooner low more (x ∷ xs) h r = (omega (arith, h, r.0), r.1)

those_rise : (test : ℕ → Bool) (low count : ℕ) → RisesFrom low (those test (up_from low count))
unfolding up_from those
those_rise test low zero = tt
those_rise test low (suc count) = go (test low) (those test (up_from (suc low) count)) (those_rise test (suc low) count)
  where
    go : (b : Bool) (xs : List ℕ) → RisesFrom (suc low) xs → RisesFrom low (cond b (low ∷ xs) xs)
    go true xs r = (omega arith, r)
    go false xs r = rises_sooner low (suc low) xs (omega arith) r

-- ---- more of them

those_of_those : (few many : ℕ → Bool) (xs : List ℕ) → ((n : ℕ) → few n ≡ true → many n ≡ true) → those few (those many xs) ≡ those few xs
unfolding those
those_of_those few many [] more = refl
those_of_those few many (x ∷ xs) more = go (few x) (many x) refl refl (those_of_those few many xs more)
  where
    go : (a b : Bool) → few x ≡ a → many x ≡ b → those few (those many xs) ≡ those few xs → those few (cond b (x ∷ those many xs) (those many xs)) ≡ cond a (x ∷ those few xs) (those few xs)
    go a true e f rest = rw (rest, e)
    go true false e f rest = absurd (false≢true (sym f ∙ more x e))
    go false false e f rest = rest

module _ (upstream downstream : Settings) (wanted : ℤ) where
  pub listed_is_close : (ratio : ℕ) → OneOf ratio (too_close upstream downstream wanted) → (lowest_ratio ≤ ratio) × (ratio ≤ highest_ratio) × (lt_z (difference_at upstream downstream ratio) wanted ≡ true)
  unfolding too_close
  listed_is_close ratio m =
      let (low, high, close) = those_pass _ lowest_ratio ratio_count ratio m in
      (low, omega (arith, high), close)

  pub close_is_listed : (ratio : ℕ) → lowest_ratio ≤ ratio → ratio ≤ highest_ratio → lt_z (difference_at upstream downstream ratio) wanted ≡ true → OneOf ratio (too_close upstream downstream wanted)
  unfolding too_close
  close_is_listed ratio low high close = passing_is_there _ lowest_ratio ratio_count ratio low (omega arith) close

  pub listed_rises : RisesFrom lowest_ratio (too_close upstream downstream wanted)
  unfolding too_close
  listed_rises = those_rise _ lowest_ratio ratio_count

  -- if the wanted margin grows, the list grows: the shorter list is what is close enough of the longer
  module _ (more : ℤ) (grows : le_z wanted more ≡ true) where
    pub more_wanted : too_close upstream downstream wanted ≡ those (λ ratio. lt_z (difference_at upstream downstream ratio) wanted) (too_close upstream downstream more)
    unfolding too_close
    more_wanted =
        sym (those_of_those _ _ ratios (λ n close. less_then_le (difference_at upstream downstream n) wanted more close grows))

    pub more_listed : length (too_close upstream downstream wanted) ≤ length (too_close upstream downstream more)
    more_listed = rw more_wanted (those_no_more _ (too_close upstream downstream more))
