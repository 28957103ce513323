-- Division by shift and subtract: the quotient's bits from the highest down.
-- Assumes nothing.
use Prim.Native.Nat.{ℕ, zero, suc, ◌+◌, ◌-◌, ◌*◌, ◌/◌, ◌%◌, ◌^◌, ◌≤◌, ◌<◌}
use native.Mathlib.Nat.{add-mul, div-eq_of_lt, div-eq_of_lt-le, le_trans, lt_of_lt_of_le, lt_of_le_of_lt, lt_of_not-le, mul_assoc, mul_comm, mul-le-mul_left, mul-le-mul_right, not-le_of_lt, pow-suc}
use native.Mathlib.Omega.{arith}
use mathlib.Core.Path.{◌≡◌, sym, ap, ◌∙◌}
use lib.Count.{count_leading_zeros, leading_top}
use lib.Pow.{pow-add, pow_mono, pow_pos, shl_exact}

-- what holds before a round, of the rounds that are left: the number is the quotient so far x the divisor + the rest, and the rest
-- is below the divisor with a place for each of those rounds
pub record LongDivision (n d part bit rest q left : ℕ) : Type 0 where
  pub whole : q * d + rest ≡ n
  pub below : rest < d * 2 ^ left
  pub bit_is : bit ≡ 2 ^ left / 2
  pub part_is : part ≡ d * 2 ^ left / 2

-- a place more doubles
place_more : (d k : ℕ) → d * 2 ^ suc k ≡ d * 2 ^ k * 2
place_more d k = ap (λ x. d * x) (pow-suc 2 k) ∙ sym (mul_assoc d (2 ^ k) 2)

-- somewhere on the way, with so many rounds left
abbrev pub Dividing : (n d part bit rest q : ℕ) → Type 0
Dividing n d part bit rest q = (left : ℕ) × LongDivision n d part bit rest q left

-- with no round left there is no bit to try
round_left : (n d part bit rest q : ℕ) → Dividing n d part bit rest q → 0 < bit → (k : ℕ) × LongDivision n d part bit rest q (suc k)
round_left n d part bit rest q (zero, h) some = absurd (omega (arith, h.bit_is))
round_left n d part bit rest q (suc k, h) some = (k, h)

module _ (n d part bit rest q : ℕ) (on : Dividing n d part bit rest q) (some : 0 < bit) where
  abbrev k : ℕ
  k = (round_left n d part bit rest q on some).0

  h : LongDivision n d part bit rest q (suc k)
  h = (round_left n d part bit rest q on some).1

  tried_bit : bit ≡ 2 ^ k
  tried_bit = omega (arith, h.bit_is, pow-suc 2 k)

  tried_part : part ≡ d * 2 ^ k
  tried_part = omega (arith, h.part_is, place_more d k)

  taken_off : (q + bit) * d ≡ q * d + part
  taken_off = add-mul q bit d ∙ ap (λ x. q * d + x) (ap (λ x. x * d) tried_bit ∙ mul_comm (2 ^ k) d ∙ sym tried_part)

  pub round_set : part ≤ rest → Dividing n d (part / 2) (bit / 2) (rest - part) (q + bit)
  round_set fits = (
    k,
    record {
      whole = omega (arith, h.whole, taken_off);
      below = omega (arith, h.below, tried_part, place_more d k);
      bit_is = ap (λ x. x / 2) tried_bit;
      part_is = ap (λ x. x / 2) tried_part;
    },
  )

  pub round_clear : rest < part → Dividing n d (part / 2) (bit / 2) rest q
  round_clear short = (
    k,
    record {
      whole = h.whole;
      below = omega (arith, tried_part);
      bit_is = ap (λ x. x / 2) tried_bit;
      part_is = ap (λ x. x / 2) tried_part;
    },
  )

  -- the quotient so far and this bit are no more than the number, which is below 2 ^ 64
  pub round_fits : 0 < d → part ≤ rest → q + bit ≤ n
  round_fits pos fits = omega (arith, h.whole, taken_off, mul-le-mul_left (q + bit) pos)

-- with no bit to try the rest is below the divisor itself
pub divided : (n d part bit rest q : ℕ) → Dividing n d part bit rest q → bit ≡ 0 → q ≡ n / d
divided n d part bit rest q (zero, h) none = sym (div-eq_of_lt-le d (omega (arith, h.whole)) (omega (arith, h.whole, h.below)))
divided n d part bit rest q (suc k, h) none = absurd (omega (arith, h.bit_is, pow-suc 2 k, pow_pos k))

-- ---- the divisor lined up with the number: both have their highest bit at one place

-- of two powers, the smaller has the smaller exponent
exponent_below : (i j : ℕ) → 2 ^ i < 2 ^ j → i < j
exponent_below i j h = lt_of_not-le (λ g. not-le_of_lt h (pow_mono g))

-- by their leading zeros
pub record LinedUp (n d zn zd : ℕ) : Type 0 where
  pub zeros : zn ≤ zd
  pub short : zd - zn < 64
  pub begun : LongDivision n d ((d * 2 ^ (zd - zn)) % 2 ^ 64) ((1 * 2 ^ (zd - zn)) % 2 ^ 64) n 0 (suc (zd - zn))

-- of the places of the highest bits
lined_up_at : (n d zn zd j i : ℕ) → d ≤ n → zn + suc j ≡ 64 → zd + suc i ≡ 64 → n < 2 ^ suc j → 2 ^ i ≤ d → d < 2 ^ suc i → LinedUp n d zn zd
lined_up_at n d zn zd j i le en ed n_high d_low d_high =
    let order = exponent_below i (suc j) (lt_of_le_of_lt (le_trans d_low le) n_high) in
    let part : (d * 2 ^ (zd - zn)) % 2 ^ 64 ≡ d * 2 ^ (zd - zn) = shl_exact (suc i) (zd - zn) 64 d_high (omega arith) in
    let bit : (1 * 2 ^ (zd - zn)) % 2 ^ 64 ≡ 1 * 2 ^ (zd - zn) = shl_exact 1 (zd - zn) 64 (omega arith) (omega arith) in
    let sum : i + suc (zd - zn) ≡ suc j = omega arith in
    let up : 2 ^ suc j ≡ 2 ^ i * 2 ^ suc (zd - zn) = ap (λ x. 2 ^ x) (sym sum) ∙ pow-add 2 i (suc (zd - zn)) in
    record {
      zeros = omega arith;
      short = omega arith;
      begun = record {
        whole = omega arith;
        below = lt_of_lt_of_le (rw up at n_high) (mul-le-mul_right (2 ^ suc (zd - zn)) d_low);
        bit_is = omega (arith, bit, pow-suc 2 (zd - zn));
        part_is = omega (arith, part, place_more d (zd - zn));
      };
    }

pub lined_up : (n d : ℕ) → 0 < d → d ≤ n → n < 2 ^ 64 → LinedUp n d (count_leading_zeros 64 n) (count_leading_zeros 64 d)
lined_up n d pos le high =
    let top_n = leading_top 64 n (omega arith) high in
    let top_d = leading_top 64 d pos (lt_of_le_of_lt le high) in
    lined_up_at n d (count_leading_zeros 64 n) (count_leading_zeros 64 d) top_n.0 top_d.0 le top_n.1 top_d.1 top_n.3 top_d.2 top_d.3

-- a number that is not below the divisor has no more leading zeros
pub fewer_zeros : (n d : ℕ) → 0 < d → d ≤ n → n < 2 ^ 64 → count_leading_zeros 64 n ≤ count_leading_zeros 64 d
fewer_zeros n d pos le high = (lined_up n d pos le high).zeros

-- and so the rounds begin
pub begun : (n d : ℕ) → 0 < d → d ≤ n → n < 2 ^ 64
    → Dividing n d ((d * 2 ^ (count_leading_zeros 64 d - count_leading_zeros 64 n)) % 2 ^ 64) ((1 * 2 ^ (count_leading_zeros 64 d - count_leading_zeros 64 n)) % 2 ^ 64) n 0
begun n d pos le high = (suc _, (lined_up n d pos le high).begun)

-- what the check of `shift_and_subtract` goes by
pub ruleset division_laws = (lined_up, fewer_zeros, begun, round_set, round_clear, round_fits, divided, div-eq_of_lt)
