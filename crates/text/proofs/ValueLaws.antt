-- The value of digits that stand one after the other: where those after a point are all 0, and where not.
-- Assumes nothing.
use mathlib.Core.Path.{◌≡◌, refl, sym, ap, ◌∙◌}
use mathlib.Core.Bool.{Bool, true, false, ◌&&◌}
use mathlib.Core.List.{List, [], ◌∷◌, ◌++◌}
use Prim.Native.Nat.{ℕ, ◌+◌, ◌-◌, ◌*◌, ◌^◌, ◌≤◌, ◌<◌}
use native.Mathlib.Nat.{pow-succ', mul_assoc, add-mul, mul-le-mul_right}
use native.Mathlib.Omega.{arith}
use lib.Dec.{eqb, ltb}
use lib.ListN.{length}
use borrow.Author.Tests.{eq-eqb, eqb-true, ltb-true, ltb-false}
use Rattle.checks.proofs.Cases.{same_test}
use Rattle.checks.proofs.Tests.{both_true, in_range_law}
use Rattle.text.specs.Number.{is_digit, all_digits, value_from, value_of}

value_append : (v : ℕ) (w d : List ℕ) → value_from v (w ++ d) ≡ value_from (value_from v w) d
unfolding value_from
value_append v [] d = refl
value_append v (b ∷ w) d = value_append (v * 10 + (b - 48)) w d

-- a number moves up by a place for each digit that comes after it
value_moves : (v : ℕ) (d : List ℕ) → value_from v d ≡ v * 10 ^ length d + value_of d
unfolding value_from
value_moves v [] = omega arith
value_moves v (b ∷ d) =
    let p : ℕ = 10 ^ length d in
    let e : ℕ = b - 48 in
    let here = value_moves (v * 10 + e) d ∙ ap (λ (x : ℕ). x + value_of d) (add-mul (v * 10) e p ∙ ap (λ (x : ℕ). x + e * p) (mul_assoc v 10 p)) in
    let first = value_moves (0 * 10 + e) d in
    let alone : (0 * 10 + e) * p ≡ e * p = ap (λ (x : ℕ). x * p) (omega arith) in
    rw (pow-succ' 10 (length d)) (omega (arith, here, first, alone))

-- so many digits stay below a 1 with as many zeros
value_under : (v : ℕ) (d : List ℕ) → all_digits d ≡ true → value_from v d < (v + 1) * 10 ^ length d
unfolding value_from all_digits
value_under v [] h = omega arith
value_under v (b ∷ d) h =
    let (digit, others) = both_true (is_digit b) (all_digits d) h in
    let most : v * 10 + (b - 48) + 1 ≤ (v + 1) * 10 = omega (arith, (in_range_law 48 57 b digit).1) in
    let under = value_under (v * 10 + (b - 48)) d others in
    let step = mul-le-mul_right (10 ^ length d) most in
    rw (pow-succ' 10 (length d), ← mul_assoc (v + 1) 10 (10 ^ length d)) (omega (arith, under, step))

-- a place for place: x and then y after it, where y has less than a whole
module _ (x v y p : ℕ) (small : y < p) (e : x * p + y ≡ v * p) where
  not_less : x < v → ⊥
  not_less h = let step = mul-le-mul_right {m = x + 1} {n = v} p (omega (arith, h)) in let one = add-mul x 1 p in omega (arith, step, one, e, small)

  not_more : v < x → ⊥
  not_more h = let step = mul-le-mul_right {m = v + 1} {n = x} p (omega (arith, h)) in let one = add-mul v 1 p in omega (arith, step, one, e, small)

  same_front : x ≡ v
  same_front = by_order (ltb x v) refl (ltb v x) refl
    where
      by_order : (s : Bool) → ltb x v ≡ s → (t : Bool) → ltb v x ≡ t → x ≡ v
      by_order true h t k = absurd (not_less (ltb-true x v h))
      by_order false h true k = absurd (not_more (ltb-true v x k))
      by_order false h false k = omega (arith, ltb-false x v h, ltb-false v x k)

  nothing_behind : y ≡ 0
  nothing_behind = let front = ap (λ (k : ℕ). k * p) same_front in omega (arith, front, e)

-- WHAT A DECIMAL IS WORTH: all its digits are a whole number times ten for each digit after the point exactly where those before
-- it give that number, and those after it give 0
pub whole_worth : (w d : List ℕ) (v : ℕ) → all_digits d ≡ true → eqb (value_of (w ++ d)) (v * 10 ^ length d) ≡ eqb (value_of w) v && eqb (value_of d) 0
whole_worth w d v h =
    let p : ℕ = 10 ^ length d in
    let joint : value_of (w ++ d) ≡ value_of w * p + value_of d = value_append 0 w d ∙ value_moves (value_of w) d in
    let small : value_of d < p = omega (arith, value_under 0 d h) in
    same_test (eqb (value_of (w ++ d)) (v * p)) (eqb (value_of w) v && eqb (value_of d) 0)
    (λ t.
    let e = sym joint ∙ eqb-true (value_of (w ++ d)) (v * p) t in
    rw (eq-eqb (value_of w) v (same_front (value_of w) v (value_of d) p small e), eq-eqb (value_of d) 0 (nothing_behind (value_of w) v (value_of d) p small e)))
    (λ t.
    let (front, behind) = both_true (eqb (value_of w) v) (eqb (value_of d) 0) t in
    let moved = ap (λ (k : ℕ). k * p) (eqb-true (value_of w) v front) in
    eq-eqb (value_of (w ++ d)) (v * p) (omega (arith, joint, moved, eqb-true (value_of d) 0 behind)))
