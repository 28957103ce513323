-- A quotient rounded up: what it means, its size, its order, and the one division that gives it.
-- Assumes nothing.
use Prim.Native.Nat.{ℕ, suc, ◌+◌, ◌-◌, ◌*◌, ◌/◌, ◌%◌, ◌≤◌, ◌<◌}
use native.Mathlib.Nat.{div-add-mod', mod-lt, div-eq_of_lt-le, div-le_self, div-lt_iff_lt-mul, div-zero, le-div_iff_mul-le, le_trans, mul-le-mul_left, suc-mul}
use native.Mathlib.Omega.{arith}
use mathlib.Core.Bool.{Bool, true, false, cond}
use mathlib.Core.Path.{◌≡◌, refl}
use borrow.Author.Tests.{eqb-true, eqb-false}
use lib.Dec.{eqb}
use Rattle.checks.proofs.Cases.{by_cond}
use Rattle.curve.specs.Rounding.{rounded_up}

-- of n = q x d + r
up_parts : (q d r : ℕ) (b : Bool) → eqb r 0 ≡ b → r < d → (q * d + r + (d - 1)) / d ≡ q + cond b 0 1
up_parts q d r true e h = div-eq_of_lt-le d (omega arith) (omega (arith, eqb-true r 0 e))
up_parts q d r false e h =
    let some : 0 < r = omega (arith, eqb-false r 0 e) in
    div-eq_of_lt-le d (omega arith) (omega arith)

pub rounded_up_by_one_division : (n d : ℕ) → 0 < d → (n + (d - 1)) / d ≡ rounded_up n d
unfolding rounded_up
rounded_up_by_one_division n d pos =
    rw div-add-mod' at (up_parts (n / d) d (n % d) (eqb (n % d) 0) refl (mod-lt n pos))

pub rounded_up_at_least : (k n d : ℕ) → 0 < d → k * d ≤ n → k ≤ rounded_up n d
unfolding rounded_up
rounded_up_at_least k n d pos h = omega (arith, (le-div_iff_mul-le pos).1 h)

pub rounded_up_at_most : (n d : ℕ) → rounded_up n d ≤ n + 1
unfolding rounded_up
rounded_up_at_most n d =
    by_cond (λ r. n / d + r ≤ n + 1) (eqb (n % d) 0) 0 1 (λ t. omega (arith, div-le_self n d)) (λ t. omega (arith, div-le_self n d))

-- ---- the least number that, times the divisor, comes up to n

rounded_up_reaches : (n d : ℕ) → 0 < d → n ≤ rounded_up n d * d
rounded_up_reaches n d pos =
    let above : n + (d - 1) < suc (rounded_up n d) * d =
    (div-lt_iff_lt-mul pos).0 (rw (rounded_up_by_one_division n d pos) (omega arith)) in
    omega (arith, rw suc-mul at above)

pub rounded_up_within : (q n d : ℕ) → 0 < d → n ≤ q * d → rounded_up n d ≤ q
rounded_up_within q n d pos h =
    let above : n + (d - 1) < suc q * d = rw suc-mul (omega arith) in
    let below : rounded_up n d < suc q = rw (rounded_up_by_one_division n d pos) at ((div-lt_iff_lt-mul pos).1 above) in
    omega arith

-- a larger number or a smaller divisor never makes it smaller
pub rounded_up_order : (n n' d d' : ℕ) → 0 < d' → n ≤ n' → d' ≤ d → rounded_up n d ≤ rounded_up n' d'
rounded_up_order n n' d d' pos more less =
    rounded_up_within (rounded_up n' d') n d (le_trans pos less)
    (le_trans more (le_trans (rounded_up_reaches n' d' pos) (mul-le-mul_left (rounded_up n' d') less)))

-- ---- by 0

pub ruleset by_zero = (div-zero)
