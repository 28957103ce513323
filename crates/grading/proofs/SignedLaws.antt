-- Signed numbers: their orders, as tests, and the difference of two numbers in 64 bits.
-- Assumes nothing.
use Prim.Native.Nat.{ℕ, zero, suc, ◌-◌, ◌≤◌, suc-le-suc}
use native.Mathlib.Nat.{le_trans}
use native.Mathlib.Omega.{arith}
use mathlib.Core.Bool.{Bool, true, false, false≢true}
use mathlib.Core.Path.{◌≡◌, refl, sym}
use borrow.Author.Tests.{leb-true, leb-false, le-leb, ltb-true, lt-ltb}
use lib.Dec.{T, lit≤, ltb}
use lib.IntN.{ℤ, pos, negsuc, ◌-ℤ◌}
use lib.Signed.{mag, lt_z, le_z, ◌≤ℤ◌, ◌<ℤ◌, le_z_yes, lt_z_yes, lt_z_no, ≤ℤ_refl, <ℤ-≤ℤ_trans, clash_ℤ}
use mir.Syntax.{w64}
use mir.Val.{SFits, to_z}
use mir.ValLaws.{to_z-of_z}
use Rattle.checks.proofs.Cases.{by_cond, not_true}
use Rattle.grading.specs.FirstTrip.{longest_wait}

passed : (b : Bool) → b ≡ true → T b
passed b e = rw e tt

is_true : (b : Bool) → T b → b ≡ true
is_true true t = refl
is_true false t = absurd t

le : (a b : ℤ) → le_z a b ≡ true → a ≤ℤ b
le a b e = le_z_yes (passed (le_z a b) e)

lt : (a b : ℤ) → lt_z a b ≡ true → a <ℤ b
lt a b e = lt_z_yes (passed (lt_z a b) e)

pub le_itself : (a : ℤ) → le_z a a ≡ true
le_itself a = is_true (le_z a a) (≤ℤ_refl a).le

pub not_less : (a b : ℤ) → lt_z a b ≡ false → le_z b a ≡ true
not_less a b e = is_true (le_z b a) (lt_z_no {a = a} {b = b} (rw e tt)).le

pub not_le : (a b : ℤ) → le_z a b ≡ false → lt_z b a ≡ true
not_le (pos a) (pos b) h = lt-ltb b a (leb-false a b h)
not_le (pos a) (negsuc b) h = refl
not_le (negsuc a) (pos b) h = absurd (false≢true (sym h))
not_le (negsuc a) (negsuc b) h = lt-ltb a b (leb-false b a h)

pub less_then_le : (a b c : ℤ) → lt_z a b ≡ true → le_z b c ≡ true → lt_z a c ≡ true
less_then_le a b c h k = is_true (lt_z a c) (<ℤ-≤ℤ_trans (lt a b h) (le b c k)).lt

pub not_both_ways : (a b : ℤ) → lt_z a b ≡ true → le_z b a ≡ true → ⊥
not_both_ways a b h k = clash_ℤ (lt a b h) (le b a k)

pub less_is_le : (a b : ℤ) → lt_z a b ≡ true → le_z a b ≡ true
less_is_le (pos a) (pos b) h = le-leb a b (omega (arith, ltb-true a b h))
less_is_le (pos a) (negsuc b) h = h
less_is_le (negsuc a) (pos b) h = refl
less_is_le (negsuc a) (negsuc b) h = le-leb b a (omega (arith, ltb-true b a h))

pub le_then_le : (a b c : ℤ) → le_z a b ≡ true → le_z b c ≡ true → le_z a c ≡ true
le_then_le a b c h k = not_less c a (not_true (lt_z c a) (λ m. not_both_ways c b (less_then_le c a b m h) k))

pub both_ways : (a b : ℤ) → le_z a b ≡ true → le_z b a ≡ true → a ≡ b
both_ways (pos a) (pos b) h k = let same : a ≡ b = omega (arith, leb-true a b h, leb-true b a k) in rw same
both_ways (pos a) (negsuc b) h k = absurd (false≢true h)
both_ways (negsuc a) (pos b) h k = absurd (false≢true k)
both_ways (negsuc a) (negsuc b) h k = let same : a ≡ b = omega (arith, leb-true b a h, leb-true a b k) in rw same

-- ---- 64 bits

-- the difference of two numbers is no larger than the larger
sub_within : (a b most : ℕ) → a ≤ most → b ≤ most → mag (pos a -ℤ pos b) ≤ most
sub_within a zero most h k = omega arith
sub_within a (suc b) most h k =
    by_cond (λ z. mag z ≤ most) (ltb a (suc b)) (negsuc (suc b - suc a)) (pos (a - suc b)) (λ t. omega arith) (λ t. omega arith)

pub difference_fits : (a b : ℕ) → a ≤ longest_wait → b ≤ longest_wait → SFits w64 (pos a -ℤ pos b)
difference_fits a b h k = record { sfits = le_trans (suc-le-suc (sub_within a b longest_wait h k)) (lit≤ tt) }

pub as_signed : (n : ℕ) → n ≤ longest_wait → to_z w64 n ≡ pos n
as_signed n h = to_z-of_z w64 (pos n) (record { sfits = le_trans (suc-le-suc h) (lit≤ tt) })
