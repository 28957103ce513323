-- What one tick adds to a phase's sum, or takes from it (01, 'Curve numbers').
use Rattle.std.specs.Prelude.{ℕ, ◌/◌, ◌^◌, cond}
use Rattle.curve.specs.Time.{operate_time, reset_time, has_operate_time, has_reset_time}

-- "The gain per tick is 10^14 / T rounded down; it is 0 at m = 100 or less", and 0 wherever else the paper gives no T
unfoldable pub gain_of : ℕ → ℕ → ℕ
gain_of op m = cond (has_operate_time op m) (10 ^ 14 / operate_time op m) 0

-- "the loss per tick is 10^14 divided by it, rounded down; at m = 100 the loss is 0", and 0 wherever else the paper gives no
-- reset time
unfoldable pub loss_of : ℕ → ℕ → ℕ
loss_of op m = cond (has_reset_time op m) (10 ^ 14 / reset_time op m) 0
