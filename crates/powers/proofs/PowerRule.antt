-- X(m) is the least number of document 01's power rule at each ratio from 101 on, how large it is, that it never rises with m, and how a
-- table shows it.
-- Assumes nothing.
use Prim.Native.Nat.{ℕ, zero, suc, ◌+◌, ◌-◌, ◌*◌, ◌^◌, ◌≤◌, ◌<◌}
use native.Mathlib.Nat.{pow-zero, pow-suc, mul-zero, mul_assoc, mul_comm, add-mul, mul-mul-mul_comm, pow-le-pow_left, one-le-pow, mul-le-mul_left, mul-le-mul_right, le_of_mul-le-mul_right, le_trans, le_antisymm, lt_of_not-le, not-le_of_lt, eq-or-lt_of_le}
use native.Mathlib.Omega.{arith}
use mathlib.Core.Bool.{Bool, true, false, cond, not, ◌&&◌, false≢true}
use mathlib.Core.List.{List}
use mathlib.Core.Logic.{⊎_elim}
use mathlib.Core.Path.{◌≡◌, refl, sym, ◌∙◌, ap}
use borrow.Author.Tests.{leb-true, leb-false, le-leb, not-true}
use lib.Dec.{lit≤, lit<}
use lib.ListN.{length, get_or}
use Rattle.checks.proofs.Cases.{by_cond}
use Rattle.checks.proofs.Tests.{both_true}
use Rattle.powers.specs.Power.{Least, is_enough, first_enough, X}
use Rattle.powers.proofs.Tables.{every_entry, entry_passes}

-- ---- enough at a number is enough at every larger one

mul_pow : (a b n : ℕ) → (a * b) ^ n ≡ a ^ n * b ^ n
mul_pow a b zero = simp pow-zero
mul_pow a b (suc n) =
    rw (pow-suc (a * b) n, pow-suc a n, pow-suc b n, mul_pow a b n) (mul-mul-mul_comm (a ^ n) (b ^ n) a b)

-- (z + d) / z is at most (y + d) / y, without the quotients
crossed : (y z d n : ℕ) → y ≤ z → (z + d) ^ n * y ^ n ≤ (y + d) ^ n * z ^ n
crossed y z d n h =
    let cross : (z + d) * y ≤ (y + d) * z = rw (add-mul, add-mul, mul_comm z y) (omega (arith, mul-le-mul_left d h)) in
    rw (← mul_pow, ← mul_pow) (pow-le-pow_left cross n)

grows : (c m y z d n : ℕ) → 0 < y → y ≤ z → c * (y + d) ^ n ≤ m * y ^ n → c * (z + d) ^ n ≤ m * z ^ n
grows c m y z d n pos h e =
    let low : c * (z + d) ^ n * y ^ n ≤ c * (y + d) ^ n * z ^ n =
    rw (mul_assoc, mul_assoc c ((y + d) ^ n)) (mul-le-mul_left c (crossed y z d n h)) in
    let high : c * (y + d) ^ n * z ^ n ≤ m * z ^ n * y ^ n =
    rw (mul_assoc m (z ^ n), mul_comm (z ^ n) (y ^ n), ← mul_assoc) (mul-le-mul_right (z ^ n) e) in
    le_of_mul-le-mul_right (le_trans low high) (one-le-pow n y pos)

enough_up : (m y z : ℕ) → y ≤ z → 100 * (y + 1000000) ^ 50 ≤ m * y ^ 50 → 100 * (z + 1000000) ^ 50 ≤ m * z ^ 50
enough_up m zero z h e = absurd (not-le_of_lt (lit< tt) (rw (mul-zero m) at e))
enough_up m (suc y) z h e = grows 100 m (suc y) z 1000000 50 (omega arith) h e

-- ---- the least number

-- what one entry of a table is tested by: enough there, and not one below
abbrev pub is_least : ℕ → ℕ → Bool
is_least m x = is_enough m x && not (is_enough m (x - 1))

least_of : (m x : ℕ) → is_least m x ≡ true → Least m x
least_of m x e =
    let t = both_true (is_enough m x) _ e in
    record {
      enough = leb-true _ _ t.0;
      fewer = λ y h. lt_of_not-le (λ f. not-le_of_lt (leb-false _ _ (not-true _ t.1)) (enough_up m y (x - 1) (omega arith) f));
    }

not_more : {m x y : ℕ} → Least m x → 100 * (y + 1000000) ^ 50 ≤ m * y ^ 50 → x ≤ y
not_more {m} {x} {y} least enough =
    omega (arith, lt_of_not-le {n = suc y} {m = x} (λ h. not-le_of_lt (least.fewer y h) enough))

pub least_unique : {m x y : ℕ} → Least m x → Least m y → x ≡ y
least_unique a b = le_antisymm (not_more a b.enough) (not_more b a.enough)

-- ---- the search finds it

first_within : (m n : ℕ) → first_enough m n ≤ n
unfolding first_enough
first_within m zero = omega arith
first_within m (suc n) =
    by_cond (λ x. x ≤ suc n) (is_enough m (first_enough m n)) (first_enough m n) (suc n) (λ t. omega (arith, first_within m n)) (λ t. omega arith)

-- where the search ends on a number that is not enough, it went to its end
ended : (m f n : ℕ) (b : Bool) → is_enough m f ≡ b → is_enough m (cond b f (suc n)) ≡ false → cond b f (suc n) ≡ suc n
ended m f n true e h = absurd (false≢true (sym h ∙ e))
ended m f n false e h = refl

first_ends : (m n : ℕ) → is_enough m (first_enough m n) ≡ false → first_enough m n ≡ n
unfolding first_enough
first_ends m zero h = refl
first_ends m (suc n) h = ended m (first_enough m n) n (is_enough m (first_enough m n)) refl h

-- no number before the first is enough
passed : (m f n y : ℕ) (b : Bool) → is_enough m f ≡ b → (b ≡ false → f ≡ n) → (y < f → is_enough m y ≡ false) → y < cond b f (suc n) → is_enough m y ≡ false
passed m f n y true e end before h = before h
passed m f n y false e end before h =
    ⊎_elim (λ q. rw q (rw (end refl) at e)) (λ q. before (rw (end refl) q)) (eq-or-lt_of_le {n = y} {m = n} (omega arith))

first_fewer : (m n y : ℕ) → y < first_enough m n → is_enough m y ≡ false
unfolding first_enough
first_fewer m zero y h = absurd (omega arith)
first_fewer m (suc n) y h =
    passed m (first_enough m n) n y (is_enough m (first_enough m n)) refl (λ e. first_ends m n e) (λ q. first_fewer m n y q) h

first_enough_law : (m n : ℕ) → is_enough m n ≡ true → is_enough m (first_enough m n) ≡ true
first_enough_law m n h = go (is_enough m (first_enough m n)) refl
  where
    go : (b : Bool) → is_enough m (first_enough m n) ≡ b → b ≡ true
    go true e = refl
    go false e = sym e ∙ ap (is_enough m) (first_ends m n e) ∙ h

first_least : (m n : ℕ) → is_enough m n ≡ true → Least m (first_enough m n)
first_least m n h =
    record { enough = leb-true _ _ (first_enough_law m n h); fewer = λ y q. leb-false _ _ (first_fewer m n y q) }

-- ---- X(m)

pub power_rule : (m : ℕ) → 101 ≤ m → Least m (X m)
unfolding X
power_rule m h =
    first_least m 10000000000
    (le-leb _ _ (le_trans (lit≤ {n = 101 * 10000000000 ^ 50} tt) (mul-le-mul_right (10000000000 ^ 50) h)))

pub X_at_most : (m : ℕ) → X m ≤ 10000000000
unfolding X
X_at_most m = first_within m 10000000000

-- at a million even 2000 is not enough
pub X_at_least : (m : ℕ) → 101 ≤ m → m ≤ 2000 → 1000000 < X m
X_at_least m low high =
    lt_of_not-le
    (λ h. not-le_of_lt (lit< {m = 2000 * 1000000 ^ 50} tt) (le_trans (enough_up m (X m) 1000000 h (power_rule m low).enough) (mul-le-mul_right (1000000 ^ 50) high)))

-- at most any number that is enough
pub X_within : (m x : ℕ) → 101 ≤ m → 100 * (x + 1000000) ^ 50 ≤ m * x ^ 50 → X m ≤ x
X_within m x low enough = not_more (power_rule m low) enough

-- X(m) never rises with m: what is enough at a ratio is enough at every larger one
pub X_never_rises : (m n : ℕ) → 101 ≤ m → m ≤ n → X n ≤ X m
X_never_rises m n low h =
    X_within n (X m) (le_trans low h) (le_trans (power_rule m low).enough (mul-le-mul_right (X m ^ 50) h))

-- a table whose entries pass the test from 101 on holds X
pub table_holds_X : (xs : List ℕ) (m : ℕ) → 101 ≤ m → m - 101 < length xs → every_entry is_least 101 xs ≡ true → get_or xs (m - 101) 0 ≡ X m
table_holds_X xs m low high e =
    let number : 101 + (m - 101) ≡ m = omega arith in
    let entry = least_of m (get_or xs (m - 101) 0) (rw number at (entry_passes is_least 101 xs e (m - 101) high)) in
    least_unique entry (power_rule m low)
