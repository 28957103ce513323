-- What an accepted margin tells of its arguments, what it and a refused one answer, and that the start currents do not matter.
-- Assumes nothing.
use Prim.Native.Nat.{ℕ, ◌≤◌}
use native.Mathlib.Omega.{arith}
use mathlib.Core.Bool.{Bool, true, false, cond}
use mathlib.Core.List.{[], ◌∷◌}
use mathlib.Core.Path.{◌≡◌, refl, sym, ◌∙◌, ap}
use borrow.Author.Tests.{eq-eqb, ne_eqb}
use lib.IntN.{ℤ, pos, ◌-ℤ◌}
use mir.Syntax.{w64}
use mir.Val.{SFits, to_z, of_z}
use mir.ValLaws.{to_z-of_z}
use Rattle.std.specs.Prelude.{None}
use Rattle.checks.specs.Checks.{check, lowest}
use Rattle.checks.specs.Range.{in_range}
use Rattle.checks.proofs.PassedLaws.{all_passed}
use Rattle.checks.proofs.Tests.{in_range_law}
use Rattle.phase.specs.declared.settings.Settings.{Settings}
use Rattle.grading.specs.declared.margin.Margin.{Margin}
use Rattle.grading.specs.declared.refusal.Refusal.{Refusal}
use Rattle.grading.specs.FirstTrip.{longest_wait, first_trip_at}
use Rattle.grading.specs.Margin.{lowest_ratio, highest_ratio, difference_at, margin_refusal, margin_of, refused_margin, margin_answer}
use Rattle.grading.specs.Refusal.{refusal_of, pair_refusal}
use Rattle.grading.specs.Refusals.{wrong_ratio}
use Rattle.grading.specs.device.Ready.{Pair}
use Rattle.grading.proofs.FirstTripLaws.{SameCurve, same_first_trip}
use Rattle.grading.proofs.RefusalLaws.{pair_passed, pair_allowed}
use Rattle.grading.proofs.SignedLaws.{difference_fits}

-- a margin as the code makes it: the difference goes through its 64 bits
pub margin_by_trips : (upstream downstream : Settings) (ratio a b : ℕ) (z : ℤ) → a ≡ first_trip_at upstream ratio → b ≡ first_trip_at downstream ratio → a ≤ longest_wait → b ≤ longest_wait → z ≡ pos a -ℤ pos b → record { refusal = refusal_of None 0; upstream = a; downstream = b; difference = to_z w64 (of_z w64 z) } ≡ margin_of upstream downstream ratio
unfolding difference_at
margin_by_trips upstream downstream ratio a b z above below h k e =
    rw (to_z-of_z w64 z (rw e (difference_fits a b h k)), e, above, below)

pub difference_of : (upstream downstream : Settings) (ratio : ℕ) (margin : Margin) → margin ≡ margin_of upstream downstream ratio → SFits w64 margin.difference → to_z w64 (of_z w64 margin.difference) ≡ difference_at upstream downstream ratio
difference_of upstream downstream ratio margin e fits = to_z-of_z w64 margin.difference fits ∙ ap (λ (m : Margin). m.difference) e

module _ (upstream downstream : Settings) (ratio : ℕ) where
  -- the refusal from that of the ratio
  pub margin_refusal_by_parts : (own : ℕ) (all : Refusal) → own ≡ lowest (check (in_range lowest_ratio highest_ratio ratio) wrong_ratio ∷ []) → all ≡ pair_refusal upstream downstream own → all ≡ margin_refusal upstream downstream ratio
  unfolding margin_refusal
  margin_refusal_by_parts own all e f = f ∙ ap (pair_refusal upstream downstream) e

  pub margin_passed : (margin_refusal upstream downstream ratio).number ≡ 0 → Pair upstream downstream × (lowest_ratio ≤ ratio) × (ratio ≤ highest_ratio)
  unfolding margin_refusal
  margin_passed e =
      let (pair, own) = pair_passed upstream downstream _ e in
      let (low, high) = in_range_law lowest_ratio highest_ratio ratio (all_passed (check (in_range lowest_ratio highest_ratio ratio) wrong_ratio ∷ []) 0 refl own).0.0 in
      (pair, low, high)

  pub margin_passed_by_parts : (own : ℕ) (all : Refusal) → own ≡ lowest (check (in_range lowest_ratio highest_ratio ratio) wrong_ratio ∷ []) → all ≡ pair_refusal upstream downstream own → all.number ≡ 0 → Pair upstream downstream × (lowest_ratio ≤ ratio) × (ratio ≤ highest_ratio)
  margin_passed_by_parts own all e f none =
      margin_passed (ap (λ (r : Refusal). r.number) (sym (margin_refusal_by_parts own all e f)) ∙ none)

  pub margin_accepted : (margin_refusal upstream downstream ratio).number ≡ 0 → margin_answer upstream downstream ratio ≡ margin_of upstream downstream ratio
  unfolding margin_answer
  margin_accepted e = rw (eq-eqb _ 0 e)

  pub margin_refused : (refusal : Refusal) → refusal ≡ margin_refusal upstream downstream ratio → (refusal.number ≡ 0 → ⊥) → margin_answer upstream downstream ratio ≡ refused_margin refusal
  unfolding margin_answer
  margin_refused refusal e h =
      rw (ne_eqb (margin_refusal upstream downstream ratio).number 0 (λ z. h (ap (λ (r : Refusal). r.number) e ∙ z))) (ap refused_margin (sym e))

-- each relay is at the ratio of its own setting, so that the start currents do not matter
pub same_difference : (upstream downstream upstream' downstream' : Settings) → Pair upstream downstream → Pair upstream' downstream' → SameCurve upstream upstream' → SameCurve downstream downstream' → (ratio : ℕ) → lowest_ratio ≤ ratio → ratio ≤ highest_ratio → difference_at upstream downstream ratio ≡ difference_at upstream' downstream' ratio
unfolding difference_at
same_difference upstream downstream upstream' downstream' pair pair' above below ratio low high =
    rw (same_first_trip upstream upstream' pair.above pair'.above above ratio low high, same_first_trip downstream downstream' pair.below pair'.below below ratio low high)

-- nor do they in what `margin_at` answers, at any ratio
refused_by_ratio : (upstream downstream : Settings) (ratio : ℕ) → Pair upstream downstream → margin_refusal upstream downstream ratio ≡ refusal_of None (lowest (check (in_range lowest_ratio highest_ratio ratio) wrong_ratio ∷ []))
unfolding margin_refusal
refused_by_ratio upstream downstream ratio pair = pair_allowed upstream downstream _ pair

module _ (upstream downstream upstream' downstream' : Settings) (pair : Pair upstream downstream) (pair' : Pair upstream' downstream') (above : SameCurve upstream upstream') (below : SameCurve downstream downstream') where
  same_margin_of : (ratio : ℕ) → lowest_ratio ≤ ratio → ratio ≤ highest_ratio → margin_of upstream downstream ratio ≡ margin_of upstream' downstream' ratio
  same_margin_of ratio low high =
      rw (same_difference upstream downstream upstream' downstream' pair pair' above below ratio low high, same_first_trip upstream upstream' pair.above pair'.above above ratio low high, same_first_trip downstream downstream' pair.below pair'.below below ratio low high)

  pub same_margin : (ratio : ℕ) → margin_answer upstream downstream ratio ≡ margin_answer upstream' downstream' ratio
  same_margin ratio = go (in_range lowest_ratio highest_ratio ratio) refl
    where
      refusal : (b : Bool) → in_range lowest_ratio highest_ratio ratio ≡ b → refusal_of None (cond b 0 wrong_ratio) ≡ margin_refusal upstream downstream ratio
      refusal b e = sym (refused_by_ratio upstream downstream ratio pair ∙ rw e)

      refusal' : (b : Bool) → in_range lowest_ratio highest_ratio ratio ≡ b → refusal_of None (cond b 0 wrong_ratio) ≡ margin_refusal upstream' downstream' ratio
      refusal' b e = sym (refused_by_ratio upstream' downstream' ratio pair' ∙ rw e)

      go : (b : Bool) → in_range lowest_ratio highest_ratio ratio ≡ b → margin_answer upstream downstream ratio ≡ margin_answer upstream' downstream' ratio
      go true e =
          let (low, high) = in_range_law lowest_ratio highest_ratio ratio e in
          margin_accepted upstream downstream ratio (ap (λ (r : Refusal). r.number) (sym (refusal true e)))
          ∙ same_margin_of ratio low high
          ∙ sym (margin_accepted upstream' downstream' ratio (ap (λ (r : Refusal). r.number) (sym (refusal' true e))))
      go false e =
          margin_refused upstream downstream ratio (refusal_of None wrong_ratio) (refusal false e) (λ z. omega (arith, z))
          ∙ sym (margin_refused upstream' downstream' ratio (refusal_of None wrong_ratio) (refusal' false e) (λ z. omega (arith, z)))
