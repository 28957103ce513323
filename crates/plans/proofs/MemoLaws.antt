-- When a memory serves for another sample, and one to begin with.
-- Assumes nothing.
use Prim.Native.Nat.{ℕ, ◌*◌, ◌≤◌, ◌<◌}
use native.Mathlib.Omega.{arith}
use mathlib.Core.Bool.{Bool, true, false, ◌&&◌}
use mathlib.Core.Path.{◌≡◌, refl, ◌∙◌}
use borrow.Author.Tests.{leb-true, leb-false, le-leb, ltb-true, ltb-false}
use lib.Dec.{leb, ltb}
use Rattle.checks.proofs.Tests.{both_true}
use Rattle.curve.specs.Gain.{gain_of, loss_of}
use Rattle.curve.specs.Ratio.{ratio_of}
use Rattle.curve.proofs.GainLaws.{gain_zero_to_100, loss_zero_from_100, no_gain_to_1, no_loss_to_5}
use Rattle.curve.proofs.RatioLaws.{ratio_at_most, ratio_below, ratio_between, ratio_from_cap}
use Rattle.phase.specs.declared.settings.Settings.{Settings}
use Rattle.phase.specs.declared.state.PhaseState.{PhaseState}
use Rattle.plans.specs.declared.memo.Memo.{Memo}
use Rattle.plans.specs.device.Memo.{first_curve, first_ansi, no_gain, cap_ratio, memo_by, memo_at, memo_of}
use Rattle.plans.specs.device.Course.{course_of, Remembers}

-- of a ratio m and a sample h among the samples of its memory
module _ (settings : Settings) (m h : ℕ) (pos : 0 < settings.start_current) (cap : m ≤ cap_ratio) where
  abbrev op : ℕ
  op = settings.operation

  abbrev s : ℕ
  s = settings.start_current

  abbrev there : (is_curve stands is_below_cap : Bool) → Memo
  there is_curve stands is_below_cap = memo_by is_curve stands is_below_cap m s (gain_of op m) (loss_of op m)

  abbrev here : Memo
  here = memo_at settings (ratio_of h s) (gain_of op (ratio_of h s)) (loss_of op (ratio_of h s))

  -- a curve has one gain and one loss for a ratio
  by_ratio : (stands below : Bool) → leb first_curve op ≡ true → (leb m no_gain && ltb op first_ansi) ≡ stands → ltb m cap_ratio ≡ below → ratio_of h s ≡ m → there true stands below ≡ here
  by_ratio stands below e f g same = rw (same, e, f, g)

  one_memory : (is_curve stands below : Bool) → leb first_curve op ≡ is_curve → (leb m no_gain && ltb op first_ansi) ≡ stands → ltb m cap_ratio ≡ below → (there is_curve stands below).from ≤ h → h ≤ (there is_curve stands below).to → there is_curve stands below ≡ here
  one_memory false stands below e f g low high =
      let none : op ≤ 1 = omega (arith, leb-false first_curve op e) in
      rw (e, no_gain_to_1 op (ratio_of h s) none, no_loss_to_5 op (ratio_of h s) (omega arith), no_gain_to_1 op m none, no_loss_to_5 op m (omega arith))
  one_memory true true below e f g low high =
      let (ratio, iec) = both_true (leb m no_gain) (ltb op first_ansi) f in
      let at_most : ratio_of h s ≤ no_gain = ratio_below h s no_gain pos (omega arith) in
      let at_5 : op ≤ 5 = omega (arith, ltb-true op first_ansi iec) in
      rw (
        e,
        le-leb (ratio_of h s) no_gain at_most,
        iec,
        gain_zero_to_100 op (ratio_of h s) at_most,
        no_loss_to_5 op (ratio_of h s) at_5,
        gain_zero_to_100 op m (leb-true m no_gain ratio),
        no_loss_to_5 op m at_5,
      )
  one_memory true false true e f g low high = by_ratio false true e f g (ratio_between h s m cap low (omega arith))
  one_memory true false false e f g low high =
      let at_cap : cap_ratio ≡ m = omega (arith, ltb-false m cap_ratio g) in
      by_ratio false false e f g (ratio_from_cap h s pos (rw (← at_cap) at low) ∙ at_cap)

-- a memory serves for each of its samples
pub serves : (settings : Settings) (last : Memo) (g h : ℕ) → 0 < settings.start_current → last ≡ memo_of settings g → last.from ≤ h → h ≤ last.to → last ≡ memo_of settings h
unfolding memo_of
serves settings last g h pos e low high =
    e ∙ one_memory settings (ratio_of g settings.start_current) h pos (ratio_at_most _ _) _ _ _ refl refl refl (rw e at low) (rw e at high)

pub at_setting : (settings : Settings) → 0 < settings.start_current → memo_at settings 100 0 0 ≡ memo_of settings (100 * settings.start_current)
unfolding memo_of
at_setting settings pos =
    let ratio : ratio_of (100 * settings.start_current) settings.start_current ≡ 100 = ratio_between _ _ 100 (omega arith) (omega arith) (omega arith) in
    rw (ratio, gain_zero_to_100 settings.operation 100 (omega arith), loss_zero_from_100 settings.operation 100 (omega arith))

pub remembered : (settings : Settings) (state : PhaseState) (g : ℕ) → Remembers settings (course_of settings state g)
remembered settings state g = record { memo = (g, refl); idle = refl }
