-- The ratio of a sample to the start current (01, 'Curve numbers').
use Rattle.std.specs.Prelude.{ℕ, ◌/◌, min}

-- "The ratio m, in hundredths, is g divided by s, rounded down, and 2000 where that is larger"
unfoldable pub ratio_of : ℕ → ℕ → ℕ
ratio_of g s = min (g / s) 2000
