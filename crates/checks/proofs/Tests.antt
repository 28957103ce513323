-- Tests on numbers: two joined, one for another, a range, and numbers that are each 0 or 1.
-- Assumes nothing.
use Prim.Native.Nat.{ℕ, zero, suc, ◌≤◌, ◌<◌}
use native.Mathlib.Omega.{arith}
use mathlib.Core.List.{List, [], ◌∷◌}
use mathlib.Core.Bool.{true, false, and-false}
use mathlib.Core.Path.{◌≡◌}
use borrow.Author.Tests.{leb-true, le-leb, lt-leb}
use lib.Dec.{leb}
use lib.ListN.{length, get_or}
use Rattle.checks.specs.Range.{in_range, all_bits}
pub use Rattle.std.proofs.lemmas.Bool.{and_parts as both_true}
use Rattle.checks.proofs.Cases.{same_test}

-- a test is another test where each order gives the other
pub leb_iff : (a b c d : ℕ) → (a ≤ b → c ≤ d) → (c ≤ d → a ≤ b) → leb a b ≡ leb c d
leb_iff a b c d f g =
    same_test (leb a b) (leb c d) (λ t. le-leb c d (f (leb-true a b t))) (λ t. le-leb a b (g (leb-true c d t)))

-- ---- a range

pub in_range_law : (low high n : ℕ) → in_range low high n ≡ true → (low ≤ n) × (n ≤ high)
in_range_law low high n e =
    let t = both_true (leb low n) (leb n high) e in
    (leb-true low n t.0, leb-true n high t.1)

pub is_in_range : (low high n : ℕ) → low ≤ n → n ≤ high → in_range low high n ≡ true
is_in_range low high n low_ok high_ok = rw (le-leb low n low_ok, le-leb n high high_ok)

pub below_range : (low high n : ℕ) → n < low → in_range low high n ≡ false
below_range low high n h = rw (lt-leb low n h)

pub above_range : (low high n : ℕ) → high < n → in_range low high n ≡ false
above_range low high n h = rw (lt-leb n high h, and-false (leb low n))

pub bit_at : (bs : List ℕ) (k : ℕ) → all_bits bs ≡ true → k < length bs → get_or bs k 0 ≤ 1
unfolding all_bits
bit_at [] k e h = absurd (omega arith)
bit_at (b ∷ bs) zero e h = leb-true b 1 (both_true (leb b 1) (all_bits bs) e).0
bit_at (b ∷ bs) (suc k) e h = bit_at bs k (both_true (leb b 1) (all_bits bs) e).1 (omega arith)
