-- The operate and the reset time in microseconds (01, 'Curve numbers').
use Rattle.std.specs.Prelude.{ℕ, ◌+◌, ◌-◌, ◌*◌, Bool, cond, ◌&&◌, leb, Option, Some, None}
use Rattle.checks.specs.Range.{in_range}
use Rattle.powers.specs.Power.{X}
use Rattle.curve.specs.declared.constants.Power.{Power}
use Rattle.curve.specs.declared.constants.Power.TheVariants.{Fiftieth, First, Second}
use Rattle.curve.specs.Constants.{constants_of}
use Rattle.curve.specs.Rounding.{rounded_up}

-- where the paper gives an operate time: operations 2 to 12, "m from 101 to 2000"
abbrev pub has_operate_time : ℕ → ℕ → Bool
has_operate_time op m = in_range 2 12 op && in_range 101 2000 m

-- where it gives a reset time: the ANSI curves 6 to 12, "m from 0 to 99"
abbrev pub has_reset_time : ℕ → ℕ → Bool
has_reset_time op m = in_range 6 12 op && leb m 99

-- "rounded up: a = 1: k x 10,000 / (m - 100); a = 2: k x 1,000,000 / (m x m - 10,000); a = 0.02: k x X(m) / 10,000"
abbrev pub inverse_part : Power → ℕ → ℕ → ℕ
inverse_part First k m = rounded_up (k * 10000) (m - 100)
inverse_part Second k m = rounded_up (k * 1000000) (m * m - 10000)
inverse_part Fiftieth k m = rounded_up (k * X m) 10000

-- "the operate time T in microseconds at multiplier 1 is c plus" that; 0 where the paper gives none
unfoldable pub operate_time : ℕ → ℕ → ℕ
operate_time op m =
    cond (has_operate_time op m) ((constants_of op).c + inverse_part (constants_of op).a (constants_of op).k m) 0

-- "The ANSI reset time for m from 0 to 99 is kr x 1,000,000 / (10,000 - m x m) rounded up"
abbrev pub reset_part : ℕ → ℕ → ℕ
reset_part kr m = rounded_up (kr * 1000000) (10000 - m * m)

-- 0 where the paper gives no kr
abbrev pub reset_by : Option ℕ → ℕ → ℕ
reset_by None m = 0
reset_by (Some kr) m = reset_part kr m

-- 0 where the paper gives none
unfoldable pub reset_time : ℕ → ℕ → ℕ
reset_time op m = cond (has_reset_time op m) (reset_by (constants_of op).kr m) 0
