-- Decimals: their length, their value, and that reading brings them back.
-- Assumes nothing.
use mathlib.Core.Path.{◌≡◌, refl, sym, ap, ◌∙◌}
use mathlib.Core.Bool.{true, false}
use mathlib.Core.List.{List, [], ◌∷◌, ◌++◌}
use Prim.Native.Nat.{ℕ, zero, suc, ◌+◌, ◌-◌, ◌*◌, ◌/◌, ◌%◌, ◌^◌, ◌≤◌, ◌<◌, max}
use native.Mathlib.Nat.{pow-suc, pow-le-pow_right, one-le-pow}
use native.Mathlib.Omega.{arith}
use lib.Dec.{ltb}
use lib.ListN.{length, get_or, set, length-append}
use lib.Seq.{sets}
use borrow.Author.Tests.{lt-ltb, le-ltb, ltb-true, ltb-false}
use Rattle.text.proofs.StoreLaws.{sets_append}
use Rattle.checks.proofs.Cases.{by_cond}
use Rattle.checks.proofs.Tests.{both_true, is_in_range}
use Rattle.text.specs.Number.{all_digits}
use Rattle.text.specs.Number.{is_digit, leading, value_from, value_of, decimal_in, decimal}

-- room for one digit more changes nothing where the number has fewer
pub decimal_room_law : (n v : ℕ) → v < 10 ^ suc n → decimal_in (suc n) v ≡ decimal_in n v
unfolding decimal_in
decimal_room_law zero v h = rw (lt-ltb v 10 (omega arith))
decimal_room_law (suc n) v h =
    let k : v < 10 ^ suc n * 10 = rw (pow-suc 10 (suc n)) at h in
    rw (decimal_room_law n (v / 10) (omega arith))

pub decimal_one : (v : ℕ) → v < 10 → decimal v ≡ (48 + v) ∷ []
unfolding decimal_in
decimal_one v h = rw (lt-ltb v 10 h)

decimal_long : (n v : ℕ) → 10 ≤ v → decimal_in (suc n) v ≡ decimal_in n (v / 10) ++ ((48 + v % 10) ∷ [])
unfolding decimal_in
decimal_long n v h = rw (le-ltb v 10 h)

pub decimal_more : (v : ℕ) → 10 ≤ v → v < 100000000000000000000 → decimal v ≡ decimal (v / 10) ++ ((48 + v % 10) ∷ [])
decimal_more v h k =
    let room : decimal (v / 10) ≡ decimal_in 18 (v / 10) = decimal_room_law 18 (v / 10) (omega arith) in
    rw room (decimal_long 18 v h)

-- at most n + 1 digits
pub decimal_length : (n v : ℕ) → length (decimal_in n v) ≤ suc n
unfolding decimal_in
decimal_length zero v = omega arith
decimal_length (suc n) v =
    by_cond (λ (l : List ℕ). length l ≤ suc (suc n)) (ltb v 10) ((48 + v) ∷ []) (decimal_in n (v / 10) ++ ((48 + v % 10) ∷ []))
    (λ e. omega arith)
    (λ e. rw length-append (omega (arith, decimal_length n (v / 10))))

-- the value of digits with one more at the end
pub value_snoc : (v : ℕ) (ds : List ℕ) (d : ℕ) → value_from v (ds ++ (d ∷ [])) ≡ value_from v ds * 10 + (d - 48)
unfolding value_from
value_snoc v [] d = refl
value_snoc v (e ∷ ds) d = value_snoc (v * 10 + (e - 48)) ds d

value_one : (v : ℕ) → value_of ((48 + v) ∷ []) ≡ v
unfolding value_from
value_one v = omega arith

-- the number comes back
pub value_decimal : (n v : ℕ) → value_of (decimal_in n v) ≡ v
unfolding decimal_in
value_decimal zero v = value_one v
value_decimal (suc n) v =
    by_cond (λ (l : List ℕ). value_of l ≡ v) (ltb v 10) ((48 + v) ∷ []) (decimal_in n (v / 10) ++ ((48 + v % 10) ∷ []))
    (λ e. value_one v)
    (λ e. rw (value_snoc 0 (decimal_in n (v / 10)) (48 + v % 10), value_decimal n (v / 10)) (omega arith))

pub decimal_back : (v : ℕ) → value_of (decimal v) ≡ v
decimal_back v = value_decimal 19 v

-- ---- stores one after the other

pub digit_longer : (v : ℕ) → 10 ≤ v → v < 100000000000000000000 → length (decimal v) ≡ length (decimal (v / 10)) + 1
digit_longer v h k = rw (decimal_more v h k, length-append)

-- one digit more, at the place after those before it
pub put_digit : (s : List ℕ) (at v : ℕ) → 10 ≤ v → v < 100000000000000000000
    → set (sets s at (decimal (v / 10))) (at + length (decimal (v / 10))) (48 + v % 10) ≡ sets s at (decimal v)
put_digit s at v h k = rw (decimal_more v h k, sets_append)

-- ---- reading brings a decimal back

decimal_digit : (v : ℕ) → v < 10 → is_digit (48 + v) ≡ true
decimal_digit v h = is_in_range 48 57 (48 + v) (omega arith) (omega arith)

all_none : all_digits [] ≡ true
unfolding all_digits
all_none = refl

all_snoc : (ds : List ℕ) (d : ℕ) → all_digits ds ≡ true → is_digit d ≡ true → all_digits (ds ++ (d ∷ [])) ≡ true
unfolding all_digits
all_snoc [] d h e = rw e
all_snoc (c ∷ ds) d h e = rw ((both_true (is_digit c) (all_digits ds) h).0, all_snoc ds d (both_true (is_digit c) (all_digits ds) h).1 e)

pub decimal_digits : (n v : ℕ) → v < 10 ^ suc n → all_digits (decimal_in n v) ≡ true
unfolding decimal_in
decimal_digits zero v h = all_snoc [] (48 + v) all_none (decimal_digit v (omega arith))
decimal_digits (suc n) v h =
    let k : v < 10 ^ suc n * 10 = rw (pow-suc 10 (suc n)) at h in
    by_cond (λ (l : List ℕ). all_digits l ≡ true) (ltb v 10) ((48 + v) ∷ []) (decimal_in n (v / 10) ++ ((48 + v % 10) ∷ []))
    (λ e. all_snoc [] (48 + v) all_none (decimal_digit v (ltb-true v 10 e)))
    (λ e. all_snoc (decimal_in n (v / 10)) (48 + v % 10) (decimal_digits n (v / 10) (omega arith)) (decimal_digit (v % 10) (omega arith)))

-- digits, then a byte that is none: they are what a reader finds, at any width that has room for them
pub leading_back : (w : ℕ) (ds : List ℕ) (b : ℕ) (s : List ℕ) → all_digits ds ≡ true → is_digit b ≡ false → length ds ≤ w → leading w (ds ++ b ∷ s) ≡ ds
unfolding leading all_digits
leading_back zero [] b s h e l = refl
leading_back zero (d ∷ ds) b s h e l = absurd (omega arith)
leading_back (suc w) [] b s h e l = rw e
leading_back (suc w) (d ∷ ds) b s h e l =
    rw ((both_true (is_digit d) (all_digits ds) h).0, leading_back w ds b s (both_true (is_digit d) (all_digits ds) h).1 e (omega arith))

-- fewer digits for smaller numbers: at most n + 1 below 10 to the n + 1
pub decimal_room_add : (n k v : ℕ) → v < 10 ^ suc n → decimal_in (n + k) v ≡ decimal_in n v
decimal_room_add n zero v h = let e : n + 0 ≡ n = omega arith in rw e
decimal_room_add n (suc k) v h =
    let e : n + suc k ≡ suc (n + k) = omega arith in
    let l : suc n ≤ suc (n + k) = omega arith in
    rw e (decimal_room_law (n + k) v (omega (arith, pow-le-pow_right {n = 10} (omega arith) l)) ∙ decimal_room_add n k v h)

pub decimal_short : (n v : ℕ) → n ≤ 19 → v < 10 ^ suc n → length (decimal v) ≤ suc n
decimal_short n v l h =
    let e : n + (19 - n) ≡ 19 = omega arith in
    let d : decimal v ≡ decimal_in n v = ap (λ (k : ℕ). decimal_in k v) (sym e) ∙ decimal_room_add n (19 - n) v h in
    rw d (decimal_length n v)

pub decimal_some : (n v : ℕ) → 1 ≤ length (decimal_in n v)
unfolding decimal_in
decimal_some zero v = omega arith
decimal_some (suc n) v =
    by_cond (λ (l : List ℕ). 1 ≤ length l) (ltb v 10) ((48 + v) ∷ []) (decimal_in n (v / 10) ++ ((48 + v % 10) ∷ [])) (λ e. omega arith) (λ e. rw length-append (omega arith))

-- at least k + 1 from 10 to the k on
decimal_least : (k n v : ℕ) → k ≤ n → 10 ^ k ≤ v → suc k ≤ length (decimal_in n v)
decimal_least zero n v l h = decimal_some n v
decimal_least (suc k) zero v l h = absurd (omega arith)
decimal_least (suc k) (suc n) v l h =
    let m : 10 ^ k * 10 ≤ v = rw (pow-suc 10 k) at h in
    let some : 1 ≤ 10 ^ k = one-le-pow k 10 (omega arith) in
    rw (decimal_long n v (omega arith), length-append) (omega (arith, decimal_least k n (v / 10) (omega arith) (omega arith)))

-- exactly k + 1 between these, where 0 counts as 1
pub decimal_length_at : (k v : ℕ) → k ≤ 19 → 10 ^ k ≤ max v 1 → max v 1 < 10 * 10 ^ k → length (decimal v) ≡ suc k
decimal_length_at zero v l least most = ap length (decimal_one v (omega arith))
decimal_length_at (suc k) v l least most =
    let p : 10 ^ suc k ≡ 10 ^ k * 10 = pow-suc 10 k in
    let some : 1 ≤ 10 ^ k = one-le-pow k 10 (omega arith) in
    let below : v < 10 ^ suc (suc k) = rw (pow-suc 10 (suc k)) (omega arith) in
    omega (arith, decimal_least (suc k) 19 v l (omega arith), decimal_short (suc k) v l below)

-- ---- without leading zeros: a number of two digits or more does not begin with 0

begins : (s t : List ℕ) → 1 ≤ length s → get_or (s ++ t) 0 0 ≡ get_or s 0 0
begins [] t h = absurd (omega arith)
begins (a ∷ s) t h = refl

pub decimal_begins : (n v : ℕ) → 1 ≤ v → v < 10 ^ suc n → get_or (decimal_in n v) 0 0 ≡ 48 → ⊥
unfolding decimal_in
decimal_begins zero v h k = λ e. omega arith
decimal_begins (suc n) v h k =
    let m : v < 10 ^ suc n * 10 = rw (pow-suc 10 (suc n)) at k in
    by_cond (λ (l : List ℕ). get_or l 0 0 ≡ 48 → ⊥) (ltb v 10) ((48 + v) ∷ []) (decimal_in n (v / 10) ++ ((48 + v % 10) ∷ []))
    (λ t e. omega arith)
    (λ t e.
    decimal_begins n (v / 10) (omega (arith, ltb-false v 10 t)) (omega arith)
    (sym (begins (decimal_in n (v / 10)) ((48 + v % 10) ∷ []) (decimal_some n (v / 10))) ∙ e))

pub decimal_no_zero : (v : ℕ) → 1 ≤ v → v < 100000000000000000000 → get_or (decimal v) 0 0 ≡ 48 → ⊥
decimal_no_zero v h k = decimal_begins 19 v h (omega arith)
