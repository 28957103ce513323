-- The samples of a ratio, and its order, for the layers above.
-- Assumes nothing.
use Prim.Native.Nat.{ℕ, ◌+◌, ◌*◌, ◌/◌, ◌≤◌, ◌<◌}
use native.Mathlib.Nat.{div-eq_of_lt-le, div-lt_iff_lt-mul, div-mul-le_self, le-div_iff_mul-le, le_trans}
use native.Mathlib.Omega.{arith}
use mathlib.Core.Path.{◌≡◌}
use Rattle.curve.specs.Ratio.{ratio_of}

pub ratio_at_most : (g s : ℕ) → ratio_of g s ≤ 2000
unfolding ratio_of
ratio_at_most g s = omega arith

pub ratio_below : (g s m : ℕ) → 0 < s → g < (m + 1) * s → ratio_of g s ≤ m
unfolding ratio_of
ratio_below g s m pos high = omega (arith, (div-lt_iff_lt-mul pos).1 high)

-- below the cap a ratio m has the samples from m x s to the last before (m + 1) x s
pub ratio_between : (g s m : ℕ) → m ≤ 2000 → m * s ≤ g → g < (m + 1) * s → ratio_of g s ≡ m
unfolding ratio_of
ratio_between g s m cap low high =
    let quotient : g / s ≡ m = div-eq_of_lt-le s low high in
    omega arith

-- and the cap those from 2000 x s on
pub ratio_from_cap : (g s : ℕ) → 0 < s → 2000 * s ≤ g → ratio_of g s ≡ 2000
unfolding ratio_of
ratio_from_cap g s pos low = omega (arith, (le-div_iff_mul-le pos).1 low)

-- a ratio of m or more has samples from m x s on
pub ratio_reached : (g s m : ℕ) → 0 < s → m ≤ ratio_of g s → m * s ≤ g
unfolding ratio_of
ratio_reached g s m pos low = (le-div_iff_mul-le pos).0 (omega arith)

-- a larger sample has no smaller ratio
pub ratio_never_falls : (g h s : ℕ) → 0 < s → g ≤ h → ratio_of g s ≤ ratio_of h s
unfolding ratio_of
ratio_never_falls g h s pos more =
    let quotient : g / s ≤ h / s = (le-div_iff_mul-le pos).1 (le_trans (div-mul-le_self g s) more) in
    omega arith
