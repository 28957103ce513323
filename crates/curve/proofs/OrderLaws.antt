-- More current is never slower (02, E8): as m grows the operate time never rises and the gain never falls, the reset time never falls
-- and the loss never rises.
-- Assumes nothing.
use Prim.Native.Nat.{ℕ, ◌/◌, ◌^◌, ◌≤◌, ◌<◌}
use native.Mathlib.Nat.{add-le-add, div-mul-le_self, le-div_iff_mul-le, le_refl, le_trans, mul-le-mul, mul-le-mul_left}
use native.Mathlib.Omega.{arith}
use mathlib.Core.Bool.{Bool, true, false, cond, ◌&&◌}
use mathlib.Core.Path.{◌≡◌, refl}
use borrow.Author.Tests.{leb-true, le-leb}
use lib.Dec.{lit≤, leb}
use Rattle.std.specs.Prelude.{Option, Some, None}
use Rattle.checks.specs.Range.{in_range}
use Rattle.checks.proofs.Tests.{both_true, in_range_law, is_in_range}
use Rattle.powers.proofs.PowerRule.{X_never_rises}
use Rattle.curve.specs.declared.constants.Power.{Power}
use Rattle.curve.specs.declared.constants.Power.TheVariants.{Fiftieth, First, Second}
use Rattle.curve.specs.Constants.{constants_of}
use Rattle.curve.specs.Gain.{gain_of, loss_of}
use Rattle.curve.specs.Time.{has_operate_time, has_reset_time, inverse_part, operate_time, reset_by, reset_part, reset_time}
use Rattle.curve.proofs.RoundingLaws.{rounded_up_order}
use Rattle.curve.proofs.TimeLaws.{square_above, square_below, operate_time_at_least, reset_time_at_least}

-- ---- the times

inverse_order : (a : Power) (k m n : ℕ) → 101 ≤ m → m ≤ n → n ≤ 2000 → inverse_part a k n ≤ inverse_part a k m
inverse_order Fiftieth k m n low h high =
    rounded_up_order _ _ _ _ (omega arith) (mul-le-mul_left k (X_never_rises m n low h)) (le_refl 10000)
inverse_order First k m n low h high = rounded_up_order _ _ _ _ (omega arith) (le_refl _) (omega arith)
inverse_order Second k m n low h high =
    rounded_up_order _ _ _ _ (omega (arith, square_above m low (le_trans h high))) (le_refl _) (omega (arith, mul-le-mul h h))

where_given : (b : Bool) (t u : ℕ) → t ≤ u → cond b t 0 ≤ cond b u 0
where_given true t u h = h
where_given false t u h = le_refl 0

-- "The time at multiplier 1 never rises with m."; of an operation without a curve both are 0
pub operate_time_never_rises : (op m n : ℕ) → 101 ≤ m → m ≤ n → n ≤ 2000 → operate_time op n ≤ operate_time op m
unfolding operate_time
operate_time_never_rises op m n low h high =
    rw (is_in_range 101 2000 m low (le_trans h high), is_in_range 101 2000 n (le_trans low h) high)
    (where_given (in_range 2 12 op && true) _ _ (add-le-add (le_refl (constants_of op).c) (inverse_order (constants_of op).a (constants_of op).k m n low h high)))

reset_order : (kr m n : ℕ) → m ≤ n → n ≤ 99 → reset_part kr m ≤ reset_part kr n
reset_order kr m n h high =
    let squares = mul-le-mul h h in
    rounded_up_order _ _ _ _ (omega (arith, square_below n high)) (omega arith) (omega arith)

reset_by_order : (kr : Option ℕ) (m n : ℕ) → m ≤ n → n ≤ 99 → reset_by kr m ≤ reset_by kr n
reset_by_order None m n h high = le_refl 0
reset_by_order (Some kr) m n h high = reset_order kr m n h high

pub reset_time_never_falls : (op m n : ℕ) → m ≤ n → n ≤ 99 → reset_time op m ≤ reset_time op n
unfolding reset_time
reset_time_never_falls op m n h high =
    rw (le-leb m 99 (le_trans h high), le-leb n 99 high)
    (where_given (in_range 6 12 op && true) _ _ (reset_by_order (constants_of op).kr m n h high))

-- ---- gain and loss

-- a share of a time where there is one: a shorter time has the larger share
shares_order : (b c : Bool) (t u : ℕ) → (b ≡ true → (c ≡ true) × (0 < u) × (u ≤ t)) → cond b (10 ^ 14 / t) 0 ≤ cond c (10 ^ 14 / u) 0
shares_order false c t u shorter = omega arith
shares_order true c t u shorter =
    let (given, pos, less) = shorter refl in
    rw given ((le-div_iff_mul-le pos).1 (le_trans (mul-le-mul_left (10 ^ 14 / t) less) (div-mul-le_self (10 ^ 14) t)))

pub gain_never_falls : (op m n : ℕ) → m ≤ n → n ≤ 2000 → gain_of op m ≤ gain_of op n
unfolding gain_of
gain_never_falls op m n h high =
    shares_order (has_operate_time op m) (has_operate_time op n) (operate_time op m) (operate_time op n)
    (λ e. let (curve, ratio) = both_true (in_range 2 12 op) (in_range 101 2000 m) e in
    let low = (in_range_law 101 2000 m ratio).0 in
    let given : has_operate_time op n ≡ true = rw (curve, is_in_range 101 2000 n (le_trans low h) high) refl in
    (given, le_trans (lit≤ tt) (operate_time_at_least op n given), operate_time_never_rises op m n low h high))

-- above 99 there is none
pub loss_never_rises : (op m n : ℕ) → m ≤ n → loss_of op n ≤ loss_of op m
unfolding loss_of
loss_never_rises op m n h =
    shares_order (has_reset_time op n) (has_reset_time op m) (reset_time op n) (reset_time op m)
    (λ e. let (ansi, ratio) = both_true (in_range 6 12 op) (leb n 99) e in
    let high = leb-true n 99 ratio in
    let given : has_reset_time op m ≡ true = rw (ansi, le-leb m 99 (le_trans h high)) refl in
    (given, le_trans (lit≤ tt) (reset_time_at_least op m given), reset_time_never_falls op m n h high))
