-- What accepted margins tell of their arguments, and what they and refused ones answer.
-- Assumes nothing.
use Prim.Native.Nat.{ℕ, ◌≤◌}
use mathlib.Core.List.{List, [], ◌∷◌}
use mathlib.Core.Path.{◌≡◌, refl, sym, ◌∙◌, ap}
use borrow.Author.Tests.{leb-true, eq-eqb, ne_eqb}
use lib.Dec.{leb}
use lib.IntN.{ℤ}
use lib.ListN.{length}
use Rattle.checks.specs.Checks.{check, lowest}
use Rattle.checks.proofs.PassedLaws.{all_passed}
use Rattle.phase.specs.declared.settings.Settings.{Settings}
use Rattle.grading.specs.declared.refusal.Refusal.{Refusal}
use Rattle.grading.specs.Margins.{ratio_count, margins_refusal, margins_of, refused_margins, margins_answer}
use Rattle.grading.specs.Refusal.{pair_refusal}
use Rattle.grading.specs.Refusals.{short_list}
use Rattle.grading.specs.device.Ready.{Pair}
use Rattle.grading.proofs.RefusalLaws.{pair_passed}

module _ (upstream downstream : Settings) (room : ℕ) where
  -- the refusal from that of the list
  pub margins_refusal_by_parts : (own : ℕ) (all : Refusal) → own ≡ lowest (check (leb ratio_count room) short_list ∷ []) → all ≡ pair_refusal upstream downstream own → all ≡ margins_refusal upstream downstream room
  unfolding margins_refusal
  margins_refusal_by_parts own all e f = f ∙ ap (pair_refusal upstream downstream) e

  pub margins_passed : (margins_refusal upstream downstream room).number ≡ 0 → Pair upstream downstream × (ratio_count ≤ room)
  unfolding margins_refusal
  margins_passed e =
      let (pair, own) = pair_passed upstream downstream _ e in
      (pair, leb-true ratio_count room (all_passed (check (leb ratio_count room) short_list ∷ []) 0 refl own).0.0)

  pub margins_passed_by_parts : (own : ℕ) (all : Refusal) → own ≡ lowest (check (leb ratio_count room) short_list ∷ []) → all ≡ pair_refusal upstream downstream own → all.number ≡ 0 → Pair upstream downstream × (ratio_count ≤ room)
  margins_passed_by_parts own all e f none =
      margins_passed (ap (λ (r : Refusal). r.number) (sym (margins_refusal_by_parts own all e f)) ∙ none)

module _ (upstream downstream : Settings) (wanted : ℤ) (list : List ℕ) where
  pub margins_accepted : (margins_refusal upstream downstream (length list)).number ≡ 0 → margins_answer upstream downstream wanted list ≡ margins_of upstream downstream wanted list
  unfolding margins_answer
  margins_accepted e = rw (eq-eqb _ 0 e)

  pub margins_refused : (refusal : Refusal) → refusal ≡ margins_refusal upstream downstream (length list) → (refusal.number ≡ 0 → ⊥) → margins_answer upstream downstream wanted list ≡ refused_margins refusal list
  unfolding margins_answer
  margins_refused refusal e h =
      rw (ne_eqb (margins_refusal upstream downstream (length list)).number 0 (λ z. h (ap (λ (r : Refusal). r.number) e ∙ z)))
      (ap (λ (r : Refusal). refused_margins r list) (sym e))
