-- Digits: those that a text begins with, one at a time; and their value, as far as a cap.
-- Assumes nothing.
use mathlib.Core.Path.{◌≡◌, refl, sym, ap, ◌∙◌}
use mathlib.Core.Bool.{Bool, true, false, cond, ◌&&◌, and-false}
use mathlib.Core.List.{List, [], ◌∷◌}
use Prim.Native.Nat.{ℕ, zero, suc, ◌+◌, ◌-◌, ◌*◌, ◌^◌, ◌≤◌, ◌<◌, min}
use native.Mathlib.Nat.{pow-suc, pow-le-pow_right}
use native.Mathlib.Numerals.{add-one}
use native.Mathlib.Omega.{arith}
use lib.Dec.{eqb, leb, ltb, lit<}
use lib.ListN.{length, get_or, take, drop, length-take, length-drop, drop_of_length-le}
use lib.Seq.{drop-cons, drop-length, get_or-take, get_or-drop}
use borrow.Author.Tests.{eq-eqb, ne_eqb, eqb-true, le-leb, lt-leb, leb-true, ltb-true, ltb-false}
use Rattle.checks.proofs.Cases.{by_cond, same_test}
use Rattle.checks.proofs.Tests.{in_range_law, is_in_range}
use Rattle.text.specs.declared.number.Digits.{Digits}
use Rattle.text.specs.Number.{is_digit, all_digits, leading, value_from, value_of, digits_from}

-- ---- how many, and how large

pub leading_length : (w : ℕ) (s : List ℕ) → length (leading w s) ≤ w
unfolding leading
leading_length zero s = omega arith
leading_length (suc w) [] = omega arith
leading_length (suc w) (b ∷ s) =
    by_cond (λ (l : List ℕ). length l ≤ suc w) (is_digit b) (b ∷ leading w s) [] (λ e. omega (arith, leading_length w s)) (λ e. omega arith)

-- a byte that stands before the digits is none: CR, LF, comma
pub digit_is_not : (b d : ℕ) → b < 48 → is_digit d ≡ true → eqb d b ≡ false
digit_is_not b d low h = ne_eqb d b (λ e. omega (arith, e, low, (in_range_law 48 57 d h).0))

-- v of j digits, with one more
pub one_more_law : (v d j : ℕ) → v < 10 ^ j → d < 10 → v * 10 + d < 10 ^ (j + 1)
one_more_law v d j h k = rw (add-one, pow-suc) (omega arith)

pub value_below : (w : ℕ) (s : List ℕ) (v j : ℕ) → v < 10 ^ j → value_from v (leading w s) < 10 ^ (j + w)
unfolding leading value_from
value_below zero s v j h = let e : j + 0 ≡ j = omega arith in rw e h
value_below (suc w) [] v j h = let l : j ≤ j + suc w = omega arith in omega (arith, pow-le-pow_right {n = 10} (omega arith) l)
value_below (suc w) (b ∷ s) v j h =
    let k : j + suc w ≡ j + 1 + w = omega arith in
    let l : j ≤ j + suc w = omega arith in
    by_cond (λ (l : List ℕ). value_from v l < 10 ^ (j + suc w)) (is_digit b) (b ∷ leading w s) []
    (λ e. rw k (value_below w s (v * 10 + (b - 48)) (j + 1) (one_more_law v (b - 48) j h (omega (arith, (in_range_law 48 57 b e).1)))))
    (λ e. omega (arith, pow-le-pow_right {n = 10} (omega arith) l))

pub value_small : (w : ℕ) (s : List ℕ) → value_of (leading w s) < 10 ^ w
value_small w s = let e : 0 + w ≡ w = omega arith in rw e at (value_below w s 0 0 (lit< tt))

-- ---- a turn of the reader: what is left gives the whole

module _ (w n v p : ℕ) (s : List ℕ) where
  abbrev rest : Digits
  rest = digits_from n v (leading (w - n) (drop p s))

  abbrev here : Digits
  here = record { count = n; value = v }

  pub digits_full : w ≤ n → here ≡ rest
  unfolding leading value_from
  digits_full h = let e : w - n ≡ 0 = omega arith in let z : n + 0 ≡ n = omega arith in rw (e, z)

  module _ (h : n < w) where
    split : w - n ≡ suc (w - (n + 1))
    split = omega arith

    pub digits_end : p ≡ length s → here ≡ rest
    unfolding leading value_from
    digits_end e = let z : n + 0 ≡ n = omega arith in rw (split, e, drop-length s, z)

    module _ (k : p < length s) where
      pub digits_stop : is_digit (get_or s p 0) ≡ false → here ≡ rest
      unfolding leading value_from
      digits_stop e = let z : n + 0 ≡ n = omega arith in rw (split, drop-cons s p 0 k, e, z)

      digits_next : is_digit (get_or s p 0) ≡ true
          → rest ≡ digits_from (n + 1) (v * 10 + (get_or s p 0 - 48)) (leading (w - (n + 1)) (drop (p + 1) s))
      unfolding leading value_from
      digits_next e =
          let z : (m : ℕ) → n + suc m ≡ n + 1 + m = λ m. omega arith in
          rw (split, drop-cons s p 0 k, e, z, add-one p)

      pub digits_more : 48 ≤ get_or s p 0 → get_or s p 0 ≤ 57
          → rest ≡ digits_from (n + 1) (v * 10 + (get_or s p 0 - 48)) (leading (w - (n + 1)) (drop (p + 1) s))
      digits_more a b = digits_next (is_in_range 48 57 (get_or s p 0) a b)

  -- as many as are asked for, or as the text has
  pub digits_over : (n < w → p ≡ length s) → here ≡ rest
  digits_over h = by_order (ltb n w) refl
    where
      by_order : (t : Bool) → ltb n w ≡ t → here ≡ rest
      by_order true e = let more : n < w = ltb-true n w e in digits_end more (h more)
      by_order false e = digits_full (ltb-false n w e)

-- n digits stand at the place, they give v, and what is left gives the whole
pub record DigitsRead (s : List ℕ) (at width n v : ℕ) : Type 0 where
  pub few : n ≤ width
  pub within : at + n ≤ length s
  pub small : v < 10 ^ n
  pub whole : digits_from n v (leading (width - n) (drop (at + n) s)) ≡ digits_from 0 0 (leading width (drop at s))

-- nine digits and one more fit in 64 bits
pub nine_digits : (v n : ℕ) → v < 10 ^ n → n < 10 → v < 1000000000
nine_digits v n h k = let l : n ≤ 9 = omega arith in omega (arith, pow-le-pow_right {n = 10} (omega arith) l)

pub digits_none : (s : List ℕ) (at w : ℕ) → at ≤ length s → DigitsRead s at w 0 0
digits_none s at w h =
    let e : w - 0 ≡ w = omega arith in
    let f : at + 0 ≡ at = omega arith in
    record { few = omega arith; within = omega arith; small = lit< tt; whole = rw (e, f) }

-- the reader goes through the part of the text that may have digits, of m bytes
module _ (s : List ℕ) (at w m n : ℕ) (within : at ≤ length s) (least : m ≡ min w (length s - at)) where
  abbrev part : List ℕ
  part = take (at + m - at) (drop at s)

  part_length : length part ≡ m
  part_length = rw length-take (omega (arith, length-drop at s))

  pub part_at : n < length part → (n < w) × (at + n < length s) × (get_or part n 0 ≡ get_or s (at + n) 0)
  part_at h =
      let long = part_length in
      (omega arith, omega arith, get_or-take (at + m - at) (drop at s) n 0 (omega arith) ∙ get_or-drop at s n 0)

  pub part_over : length part ≤ n → n ≤ length part → (length part ≡ n) × (n < w → at + n ≡ length s)
  part_over h k = let long = part_length in (omega arith, λ more. omega arith)

-- a turn, in the reader's own terms
pub digits_again : (w n v at : ℕ) (s : List ℕ) (b : ℕ) → n < w → at + n < length s → b ≡ get_or s (at + n) 0 → is_digit b ≡ true
    → digits_from (n + 1) (v * 10 + (b - 48)) (leading (w - (n + 1)) (drop (at + (n + 1)) s))
    ≡ digits_from n v (leading (w - n) (drop (at + n) s))
digits_again w n v at s b h k here digit =
    let e : at + (n + 1) ≡ at + n + 1 = omega arith in
    rw (e, here) (sym (digits_next w n v (at + n) s h k (ap is_digit (sym here) ∙ digit)))

pub digits_count : (d : Digits) (w : ℕ) (s : List ℕ) → d ≡ digits_from 0 0 (leading w s) → d.count ≡ length (leading w s)
digits_count d w s e = let z : 0 + length (leading w s) ≡ length (leading w s) = omega arith in ap (λ (x : Digits). x.count) e ∙ z

pub all_digits_nil : all_digits [] ≡ true
unfolding all_digits
all_digits_nil = refl

pub all_digits_cons : (d : ℕ) (ds : List ℕ) → all_digits (d ∷ ds) ≡ is_digit d && all_digits ds
unfolding all_digits
all_digits_cons d ds = refl

-- ---- the digits that a text begins with are all of it exactly where it has digits alone, and no more than those

suc_eqb : (a b : ℕ) → eqb (suc a) (suc b) ≡ eqb a b
suc_eqb a b =
    same_test (eqb (suc a) (suc b)) (eqb a b)
    (λ t. eq-eqb a b (omega (arith, eqb-true (suc a) (suc b) t))) (λ t. eq-eqb (suc a) (suc b) (omega (arith, eqb-true a b t)))

suc_leb : (a b : ℕ) → leb (suc a) (suc b) ≡ leb a b
suc_leb a b =
    same_test (leb (suc a) (suc b)) (leb a b)
    (λ t. le-leb a b (omega (arith, leb-true (suc a) (suc b) t))) (λ t. le-leb (suc a) (suc b) (omega (arith, leb-true a b t)))

pub all_leading : (w : ℕ) (s : List ℕ) → eqb (length (leading w s)) (length s) ≡ all_digits s && leb (length s) w
unfolding leading all_digits
all_leading zero [] = refl
all_leading zero (b ∷ s) = rw (ne_eqb 0 (suc (length s)) (λ e. omega arith), lt-leb (suc (length s)) 0 (omega arith), and-false (is_digit b && all_digits s))
all_leading (suc w) [] = sym (le-leb 0 (suc w) (omega arith))
all_leading (suc w) (b ∷ s) = by_digit (is_digit b) (all_leading w s)
  where
    by_digit : (t : Bool) → eqb (length (leading w s)) (length s) ≡ all_digits s && leb (length s) w
        → eqb (length (cond t (b ∷ leading w s) [])) (suc (length s)) ≡ (t && all_digits s) && leb (suc (length s)) (suc w)
    by_digit true h = rw (suc_eqb (length (leading w s)) (length s), suc_leb (length s) w) h
    by_digit false h = ne_eqb 0 (suc (length s)) (λ e. omega arith)

pub leading_all : (w : ℕ) (s : List ℕ) → length (leading w s) ≡ length s → leading w s ≡ s
unfolding leading
leading_all zero [] e = refl
leading_all zero (b ∷ s) e = absurd (omega arith)
leading_all (suc w) [] e = refl
leading_all (suc w) (b ∷ s) e = by_digit (is_digit b) e (leading_all w s)
  where
    by_digit : (t : Bool) → length (cond t (b ∷ leading w s) []) ≡ suc (length s) → (length (leading w s) ≡ length s → leading w s ≡ s)
        → cond t (b ∷ leading w s) [] ≡ b ∷ s
    by_digit true h more = ap (λ (l : List ℕ). b ∷ l) (more (omega (arith, h)))
    by_digit false h more = absurd (omega (arith, h))

-- ---- the value of digits, as far as a cap

capped : (cap v : ℕ) (ds : List ℕ) → min (value_from v ds) cap ≡ min (value_from (min v cap) ds) cap
unfolding value_from
capped cap v [] = omega arith
capped cap v (d ∷ ds) =
    let same : min (v * 10 + (d - 48)) cap ≡ min (min v cap * 10 + (d - 48)) cap = omega arith in
    capped cap (v * 10 + (d - 48)) ds ∙ ap (λ (x : ℕ). min (value_from x ds) cap) same ∙ sym (capped cap (min v cap * 10 + (d - 48)) ds)

module _ (cap : ℕ) (s : List ℕ) (i v : ℕ) where
  pub capped_end : length s ≤ i → v ≤ cap → min (value_from v (drop i s)) cap ≡ v
  unfolding value_from
  capped_end l h = rw (drop_of_length-le s l) (omega arith)

  pub capped_on : i < length s → (w : ℕ) → w ≡ min (v * 10 + (get_or s i 0 - 48)) cap
      → min (value_from v (drop i s)) cap ≡ min (value_from w (drop (i + 1) s)) cap
  unfolding value_from
  capped_on k w e = rw (drop-cons s i 0 k, add-one i, e) (capped cap (v * 10 + (get_or s i 0 - 48)) (drop (suc i) s))

pub value_nothing : value_of [] ≡ 0
unfolding value_from
value_nothing = refl
