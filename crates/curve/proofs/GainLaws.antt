-- What the layers above need of gain and loss, without opening them.
-- Assumes nothing.
use Prim.Native.Nat.{ℕ, ◌/◌, ◌^◌, ◌≤◌}
use native.Mathlib.Nat.{div-le_of_le-mul, div-zero, mul-le-mul_right}
use native.Mathlib.Omega.{arith}
use mathlib.Core.Bool.{Bool, true, false, cond, and-false}
use mathlib.Core.Path.{◌≡◌, refl}
use borrow.Author.Tests.{lt-leb}
use Rattle.checks.specs.Range.{in_range}
use Rattle.checks.proofs.Tests.{below_range}
use Rattle.curve.specs.Gain.{gain_of, loss_of}
use Rattle.curve.specs.Time.{has_operate_time, has_reset_time, operate_time, reset_time}
use Rattle.curve.proofs.TimeLaws.{operate_time_at_least, reset_time_at_least}

-- a share of a time of 100 microseconds or more
share_at_most : (t : ℕ) → 100 ≤ t → 10 ^ 14 / t ≤ 10 ^ 12
share_at_most t h = div-le_of_le-mul t (omega (arith, mul-le-mul_right (10 ^ 12) h))

shared_at_most : (b : Bool) (t : ℕ) → (b ≡ true → 100 ≤ t) → cond b (10 ^ 14 / t) 0 ≤ 10 ^ 12
shared_at_most true t h = share_at_most t (h refl)
shared_at_most false t h = omega arith

-- 3,600,000 ticks of it and a sum at the highest trip level, 1,500 x 10^9, fit 64 bits
pub gain_at_most : (op m : ℕ) → gain_of op m ≤ 10 ^ 12
unfolding gain_of
gain_at_most op m = shared_at_most (has_operate_time op m) (operate_time op m) (operate_time_at_least op m)

pub loss_at_most : (op m : ℕ) → loss_of op m ≤ 10 ^ 12
unfolding loss_of
loss_at_most op m = shared_at_most (has_reset_time op m) (reset_time op m) (reset_time_at_least op m)

-- ---- one quotient: where there is no time, the time is 0, and a quotient by 0 is 0

share_of : (b : Bool) (t : ℕ) → 10 ^ 14 / cond b t 0 ≡ cond b (10 ^ 14 / cond b t 0) 0
share_of true t = refl
share_of false t = div-zero (10 ^ 14)

pub gain_by_time : (op m : ℕ) → 10 ^ 14 / operate_time op m ≡ gain_of op m
unfolding gain_of operate_time
gain_by_time op m = share_of (has_operate_time op m) _

pub loss_by_time : (op m : ℕ) → 10 ^ 14 / reset_time op m ≡ loss_of op m
unfolding loss_of reset_time
loss_by_time op m = share_of (has_reset_time op m) _

-- what the check of `change_of` goes by
pub ruleset change_laws = (gain_by_time, loss_by_time)

-- ---- where there is none

-- "it is 0 at m = 100 or less"
pub gain_zero_to_100 : (op m : ℕ) → m ≤ 100 → gain_of op m ≡ 0
unfolding gain_of
gain_zero_to_100 op m h = rw (below_range 101 2000 m (omega arith), and-false (in_range 2 12 op))

-- "at m = 100 the loss is 0", and above it there is none
pub loss_zero_from_100 : (op m : ℕ) → 100 ≤ m → loss_of op m ≡ 0
unfolding loss_of
loss_zero_from_100 op m h = rw (lt-leb m 99 (omega arith), and-false (in_range 6 12 op))

-- Off and Definite have no operate time
pub no_gain_to_1 : (op m : ℕ) → op ≤ 1 → gain_of op m ≡ 0
unfolding gain_of
no_gain_to_1 op m h = rw (below_range 2 12 op (omega arith))

-- only the ANSI curves have a reset time
pub no_loss_to_5 : (op m : ℕ) → op ≤ 5 → loss_of op m ≡ 0
unfolding loss_of
no_loss_to_5 op m h = rw (below_range 6 12 op (omega arith))
