-- For the reader of a row at the front: a turn of the loop over digits, a field, the six fields, and the answer.
-- Assumes nothing.
use mathlib.Core.Path.{◌≡◌, refl, sym, ap, ◌∙◌}
use mathlib.Core.Bool.{true, false, cond, ◌&&◌, and-false}
use mathlib.Core.List.{List, []}
use Prim.Native.Nat.{ℕ, zero, suc, ◌+◌, ◌-◌, ◌*◌, ◌^◌, ◌≤◌, ◌<◌}
use native.Mathlib.Omega.{arith}
use lib.Dec.{leb, ltb, eqb, lit<}
use lib.ListN.{length, get_or, drop}
use lib.Seq.{drop-cons}
use Rattle.text.specs.declared.number.Digits.{Digits}
use Rattle.text.specs.Number.{is_digit, leading, value_from, value_of, digits_from}
use borrow.Author.Tests.{eq-eqb, ne_eqb, eqb-true, lt-ltb, le-ltb}
use Rattle.std.specs.Prelude.{Some, None}
use Rattle.std.proofs.lemmas.Option.{cond_some}
use Rattle.checks.proofs.Tests.{both_true, in_range_law, leb_iff}
use Rattle.text.proofs.DigitLaws.{leading_length, one_more_law, digits_full, digits_more, digits_count}
use Rattle.rows.specs.declared.front.Field.{Field}
use Rattle.rows.specs.device.Front.{field_from}

-- the digits from `at` to `end` give the value, and with what is left the whole
pub record Reading (s : List ℕ) (at width end value : ℕ) : Type 0 where
  pub begun : at ≤ end
  pub few : end ≤ at + width
  pub small : value < 10 ^ (end - at)
  pub whole : digits_from (end - at) value (leading (width - (end - at)) (drop end s)) ≡ digits_from 0 0 (leading width (drop at s))

pub reading_first : (s : List ℕ) (at width : ℕ) → Reading s at width at 0
reading_first s at width =
    let none : at - at ≡ 0 = omega arith in
    let all : width - 0 ≡ width = omega arith in
    record { begun = omega arith; few = omega arith; small = rw none (lit< tt); whole = rw (none, all) }

-- a byte that is no digit ends them
leading_ends : (w : ℕ) (s : List ℕ) (p : ℕ) → p < length s → is_digit (get_or s p 0) ≡ false → leading w (drop p s) ≡ []
unfolding leading
leading_ends zero s p h e = refl
leading_ends (suc w) s p h e = rw (drop-cons s p 0 h, e)

module _ (s : List ℕ) (at width end value : ℕ) (r : Reading s at width end value) where
  pub reading_on : end < at + width → end < length s → is_digit (get_or s end 0) ≡ true → Reading s at width (end + 1) (value * 10 + (get_or s end 0 - 48))
  reading_on h k e =
      let (low, high) = in_range_law 48 57 (get_or s end 0) e in
      let more : end + 1 - at ≡ end - at + 1 = omega (arith, r.begun) in
      record {
        begun = omega (arith, r.begun);
        few = omega (arith, h);
        small = rw more (one_more_law value (get_or s end 0 - 48) (end - at) r.small (omega (arith, low, high)));
        whole =
            rw more (sym (digits_more width (end - at) value end s (omega (arith, h, r.begun)) k low high) ∙ r.whole);
      }

  -- ---- at the end

  abbrev pub here : Digits
  here = record { count = end - at; value = value }

  abbrev pub Found : Type 0
  Found = here ≡ digits_from 0 0 (leading width (drop at s))

  pub found_full : at + width ≤ end → Found
  found_full h = digits_full width (end - at) value end s (omega (arith, h, r.begun)) ∙ r.whole

  pub found_other : end < length s → is_digit (get_or s end 0) ≡ false → Found
  unfolding value_from
  found_other k e =
      let none : end - at + 0 ≡ end - at = omega arith in
      let left : here ≡ digits_from (end - at) value (leading (width - (end - at)) (drop end s)) = rw (leading_ends (width - (end - at)) s end k e, none) in
      left ∙ r.whole

  -- what the reader answers then
  module _ (closer : ℕ) (found : Found) where
    field_by : cond (ltb at end && eqb (get_or s end 0) closer) (Some (record { value = value; next = end + 1 })) None ≡ field_from width closer s at
    unfolding field_from
    field_by =
        let ds : List ℕ = leading width (drop at s) in
        let count : length ds ≡ end - at = sym (digits_count here width (drop at s) found) in
        let number : value_of ds ≡ value = sym (ap (λ (d : Digits). d.value) found) in
        let place : at + (end - at) ≡ end = omega (arith, r.begun) in
        let some : ltb at end ≡ leb 1 (end - at) = leb_iff (suc at) end 1 (end - at) (λ h. omega (arith, h)) (λ h. omega (arith, h)) in
        rw (count, number, place, some)

    pub field_read : (end ≡ at → ⊥) → get_or s end 0 ≡ closer → Some (record { value = value; next = end + 1 }) ≡ field_from width closer s at
    field_read n e = rw (lt-ltb at end (omega (arith, n, r.begun)), eq-eqb (get_or s end 0) closer e) at field_by

    pub field_empty : end ≡ at → None ≡ field_from width closer s at
    field_empty e = rw (le-ltb at end (omega (arith, e))) at field_by

    pub field_open : (get_or s end 0 ≡ closer → ⊥) → None ≡ field_from width closer s at
    field_open n = rw (ne_eqb (get_or s end 0) closer n, and-false (ltb at end)) at field_by

-- ---- how far it comes, and how large its number is

-- a field that stands there: its digits, and the closer after them
pub record FieldStands (w closer : ℕ) (s : List ℕ) (at : ℕ) (f : Field) : Type 0 where
  pub some : leb 1 (length (leading w (drop at s))) ≡ true
  pub closed : get_or s (at + length (leading w (drop at s))) 0 ≡ closer
  pub value : f.value ≡ value_of (leading w (drop at s))
  pub next : f.next ≡ at + length (leading w (drop at s)) + 1

module _ (w closer : ℕ) (s : List ℕ) (at : ℕ) where
  pub field_stands : (f : Field) → field_from w closer s at ≡ Some f → FieldStands w closer s at f
  unfolding field_from
  field_stands f e =
      let ds : List ℕ = leading w (drop at s) in
      let (tests, same) = cond_some (leb 1 (length ds) && eqb (get_or s (at + length ds) 0) closer) (record { value = value_of ds; next = at + length ds + 1 }) f e in
      let (some, closed) = both_true (leb 1 (length ds)) (eqb (get_or s (at + length ds) 0) closer) tests in
      record {
        some = some;
        closed = eqb-true (get_or s (at + length ds) 0) closer closed;
        value = sym (ap (λ (g : Field). g.value) same);
        next = sym (ap (λ (g : Field). g.next) same);
      }

  pub field_near : (f : Field) → field_from w closer s at ≡ Some f → f.next ≤ at + w + 1
  field_near f e = omega (arith, (field_stands f e).next, leading_length w (drop at s))
