-- The fields of a line, one after the other, against its shape.
-- Assumes nothing.
use mathlib.Core.Path.{◌≡◌, refl, sym, ap, ◌∙◌}
use mathlib.Core.Bool.{Bool, true, false, cond, ◌&&◌, and-false, false≢true}
use mathlib.Core.List.{List, [], ◌∷◌, map}
use Prim.Native.Nat.{ℕ, zero, suc, ◌+◌, ◌-◌, ◌≤◌, ◌<◌}
use native.Mathlib.Omega.{arith}
use lib.Dec.{eqb, leb}
use lib.ListN.{length, get_or, take, drop, length-drop, drop_of_length-le}
use lib.Seq.{drop-cons, drop-drop, take-length}
use borrow.Author.Tests.{eq-eqb, ne_eqb, eqb-true, eqb-false, lt-leb, le-leb}
use Rattle.checks.proofs.Cases.{not_both, same_test}
use Rattle.checks.proofs.Tests.{both_true}
use Rattle.text.specs.Number.{leading, value_of}
use Rattle.text.specs.Line.{comma, ends_cr_lf, body, fields_in}
use Rattle.text.proofs.ShapeLaws.{ends_long}
use Rattle.fields.specs.declared.field.Field.{Field}
use Rattle.fields.specs.declared.field.Field.TheVariants.{Decimal}
use Rattle.fields.specs.Marks.{has, before, after, unspaced, all_printable}
use Rattle.fields.specs.Field.{fits_field}
use Rattle.config.specs.Config.{rate_fields}
use Rattle.config.specs.Reader.{is_due, is_right_at, number_due}
use Rattle.config.specs.Refusals.{multiplier}
use Rattle.config.specs.Line.{longest_line, is_right, fit_all}
use Rattle.config.specs.declared.shape.Shape.{Shape as KeptShape}
use Rattle.config.specs.device.Layout.{kept, any_field}
use native.Mathlib.Numerals.{add-one}
use Rattle.config.specs.Shape.{whole, Shape, shapes, no_shape, shape_at}
use Rattle.fields.specs.device.Calls.{MarkFound, Leads, readable}
use Rattle.config.specs.device.Calls.{FieldEnds, all_readable}
use Rattle.fields.proofs.NumberLaws.{whole_leading}
use Rattle.fields.proofs.MarkLaws.{fields_split, marked, markless, front, rest}

-- ---- the fields from a place on, and the shape's from a place on

none_left : (ks : List Field) → fit_all ks [] ≡ eqb (length ks) 0
unfolding fit_all
none_left [] = refl
none_left (k ∷ ks) = sym (ne_eqb (suc (length ks)) 0 (λ e. omega arith))

-- a text always has a field more
field_too_many : (s : List ℕ) → fit_all [] (fields_in s) ≡ false
unfolding fit_all
field_too_many s = ap (fit_all []) (fields_split s) ∙ some_by (has comma comma s)
  where
    some_by : (t : Bool) → fit_all [] (cond t (before comma comma s ∷ fields_in (after comma comma s)) (s ∷ [])) ≡ false
    some_by true = refl
    some_by false = refl

module _ (s : List ℕ) (at end : ℕ) (ends : FieldEnds s at end) (begins : at ≤ length s) where
  abbrev size : ℕ
  size = end - at

  abbrev left : List ℕ
  left = drop at s

  found : MarkFound comma comma left size
  found = record { counted = omega (arith, ends.ended); within = rw length-drop (omega (arith, ends.within)) }

  left_length : length left ≡ length s - at
  left_length = length-drop at s

  pub begins_first : at ≤ end
  begins_first = omega (arith, ends.ended)

  last_one : end ≡ length s → fields_in left ≡ take size left ∷ []
  last_one e =
      let all : size ≡ length left = omega (arith, e, left_length) in
      let whole : take size left ≡ left = ap (λ (k : ℕ). take k left) all ∙ take-length left in
      fields_split left ∙ rw (markless comma comma left size found all, whole)

  one_more_law : (end ≡ length s → ⊥) → fields_in left ≡ take size left ∷ fields_in (drop (end + 1) s)
  one_more_law h =
      let some : size ≡ length left → ⊥ = λ e. h (omega (arith, e, left_length, begins, ends.ended)) in
      let place : at + (size + 1) ≡ end + 1 = omega (arith, ends.ended) in
      fields_split left
      ∙ rw (marked comma comma left size found some, ← front comma comma left size found, ← rest comma comma left size found, drop-drop (size + 1) at s, place)

  module _ (k : Field) (ks : List Field) where
    pub field_wrong : fits_field k (take size left) ≡ false → fit_all (k ∷ ks) (fields_in left) ≡ false
    unfolding fit_all
    field_wrong e = wrong_by (eqb end (length s)) refl
      where
        wrong_by : (t : Bool) → eqb end (length s) ≡ t → fit_all (k ∷ ks) (fields_in left) ≡ false
        wrong_by true h = rw (last_one (eqb-true end (length s) h), e)
        wrong_by false h = rw (one_more_law (eqb-false end (length s) h), e)

    module _ (right : fits_field k (take size left) ≡ true) where
      pub field_last : end ≡ length s → fit_all (k ∷ ks) (fields_in left) ≡ eqb (length ks) 0
      unfolding fit_all
      field_last e = rw (last_one e, right) (none_left ks)

      pub field_next : (end ≡ length s → ⊥) → fit_all (k ∷ ks) (fields_in left) ≡ fit_all ks (fields_in (drop (end + 1) s))
      unfolding fit_all
      field_next h = rw (one_more_law h, right)

-- ---- the fields of a shape, as the code keeps them

abbrev each_readable : List Shape → Bool
each_readable [] = true
each_readable (x ∷ xs) = all_readable x.fields && each_readable xs

readable_of : (xs : List Shape) (i : ℕ) → each_readable xs ≡ true → all_readable (get_or xs i no_shape).fields ≡ true
unfolding all_readable
readable_of [] i e = refl
readable_of (x ∷ xs) zero e = (both_true (all_readable x.fields) (each_readable xs) e).0
readable_of (x ∷ xs) (suc i) e = readable_of xs i (both_true (all_readable x.fields) (each_readable xs) e).1

pub shape_readable : (i : ℕ) → all_readable (shape_at i).fields ≡ true
unfolding all_readable
shape_readable i = readable_of shapes i refl

pub field_readable : (ks : List Field) (i : ℕ) → all_readable ks ≡ true → i < length ks → readable (get_or ks i any_field) ≡ true
unfolding all_readable
field_readable [] i e h = absurd (omega arith)
field_readable (k ∷ ks) zero e h = (both_true (readable k) (all_readable ks) e).0
field_readable (k ∷ ks) (suc i) e h = field_readable ks i (both_true (readable k) (all_readable ks) e).1 (omega arith)

-- the table is the definition's
kept_at : (xs : List KeptShape) (d : KeptShape) (i : ℕ) → map kept xs ≡ shapes → kept d ≡ no_shape → kept (get_or xs i d) ≡ shape_at i
kept_at xs d i e f = kept_get xs i ∙ rw (e, f)
  where
    kept_get : (ys : List KeptShape) (k : ℕ) → kept (get_or ys k d) ≡ get_or (map kept ys) k (kept d)
    kept_get [] k = refl
    kept_get (y ∷ ys) zero = refl
    kept_get (y ∷ ys) (suc k) = kept_get ys k

module _ (a b c d e f g h i j k l m none : KeptShape) where
  abbrev table : List KeptShape
  table = a ∷ b ∷ c ∷ d ∷ e ∷ f ∷ g ∷ h ∷ i ∷ j ∷ k ∷ l ∷ m ∷ []

  pub kept_shape : (n : ℕ) → map kept table ≡ shapes → kept none ≡ no_shape → kept (get_or table n none) ≡ shape_at n
  kept_shape = kept_at table none

-- ---- how far the code has come: the fields passed are right, and those from a place on tell of all

-- the field's end, as it is found in what is left
pub field_ends : (s : List ℕ) (at n : ℕ) (t : List ℕ) → t ≡ drop at s → MarkFound comma comma t n → at ≤ length s → FieldEnds s at (at + n)
field_ends s at n t e mark begins =
    let size : length t ≡ length s - at = ap length e ∙ length-drop at s in
    record {
      ended = ap (λ (k : ℕ). at + k) (mark.counted ∙ ap (λ (x : List ℕ). length (before comma comma x)) e);
      within = omega (arith, mark.within, size, begins);
    }

module _ (s : List ℕ) (ks : List Field) where
  pub record FieldsTurn (at k : ℕ) : Type 0 where
    pub begins : at ≤ length s
    pub few : k ≤ length ks
    pub same : fit_all ks (fields_in s) ≡ fit_all (drop k ks) (fields_in (drop at s))

  pub turn_first : FieldsTurn 0 0
  turn_first = record { begins = omega arith; few = omega arith; same = refl }

  module _ (at k : ℕ) (turn : FieldsTurn at k) where
    -- the shape's fields are over, and the text has one more
    pub turn_over : length ks ≤ k → false ≡ fit_all ks (fields_in s)
    turn_over l = sym (turn.same ∙ rw (drop_of_length-le ks l) (field_too_many (drop at s)))

    module _ (more : k < length ks) (end : ℕ) (ends : FieldEnds s at end) where
      abbrev field : Field
      field = get_or ks k any_field

      abbrev others : List Field
      others = drop (suc k) ks

      same_here : fit_all ks (fields_in s) ≡ fit_all (field ∷ others) (fields_in (drop at s))
      same_here = turn.same ∙ ap (λ (fs : List Field). fit_all fs (fields_in (drop at s))) (drop-cons ks k any_field more)

      pub turn_wrong : fits_field field (take (end - at) (drop at s)) ≡ false → false ≡ fit_all ks (fields_in s)
      turn_wrong wrong = sym (same_here ∙ field_wrong s at end ends turn.begins field others wrong)

      module _ (right : fits_field field (take (end - at) (drop at s)) ≡ true) where
        pub turn_last : end ≡ length s → eqb (k + 1) (length ks) ≡ fit_all ks (fields_in s)
        turn_last e =
            let size : length others ≡ length ks - suc k = length-drop (suc k) ks in
            let test : eqb (k + 1) (length ks) ≡ eqb (length others) 0 =
            same_test (eqb (k + 1) (length ks)) (eqb (length others) 0)
            (λ t. eq-eqb (length others) 0 (omega (arith, size, eqb-true (k + 1) (length ks) t)))
            (λ t. eq-eqb (k + 1) (length ks) (omega (arith, size, more, eqb-true (length others) 0 t))) in
            test ∙ sym (same_here ∙ field_last s at end ends turn.begins field others right e)

        pub turn_next : (end ≡ length s → ⊥) → FieldsTurn (end + 1) (k + 1)
        turn_next h = record {
          begins = omega (arith, ends.within, h);
          few = omega (arith, more);
          same = same_here ∙ field_next s at end ends turn.begins field others right h ∙ rw (add-one k);
        }

-- ---- the second field of the rate's line

module _ (s : List ℕ) (right : fit_all rate_fields (fields_in s) ≡ true) where
  two_fields : (t : Bool) → fit_all rate_fields (cond t (before comma comma s ∷ fields_in (after comma comma s)) (s ∷ [])) ≡ true
      → (t ≡ true) × (fit_all (whole 1 10 1 9999999999 ∷ []) (fields_in (after comma comma s)) ≡ true)
  unfolding fit_all
  two_fields true h = (refl, (both_true (fits_field (Decimal 1000) (before comma comma s)) _ h).1)
  two_fields false h = absurd (not_both false (sym (and-false (fits_field (Decimal 1000) s)) ∙ h) refl)

  both_there : (has comma comma s ≡ true) × (fit_all (whole 1 10 1 9999999999 ∷ []) (fields_in (after comma comma s)) ≡ true)
  both_there = two_fields (has comma comma s) (ap (fit_all rate_fields) (sym (fields_split s)) ∙ right)

  abbrev second : List ℕ
  second = after comma comma s

  abbrev second_fits : List ℕ → Bool
  second_fits f = fits_field (whole 1 10 1 9999999999) f

  one_field : (t : Bool) → fit_all (whole 1 10 1 9999999999 ∷ []) (cond t (before comma comma second ∷ fields_in (after comma comma second)) (second ∷ [])) ≡ true
      → (t ≡ false) × (second_fits second ≡ true)
  unfolding fit_all
  one_field true h =
      let no_more = field_too_many (after comma comma second) in
      let none = ap (λ (t : Bool). second_fits (before comma comma second) && t) no_more ∙ and-false (second_fits (before comma comma second)) in
      absurd (false≢true (sym none ∙ h))
  one_field false h = (refl, (both_true (second_fits second) true h).0)

  second_alone : (has comma comma second ≡ false) × (second_fits second ≡ true)
  second_alone = one_field (has comma comma second) (ap (fit_all (whole 1 10 1 9999999999 ∷ [])) (sym (fields_split second)) ∙ both_there.1)

  second_is : get_or (fields_in s) 1 [] ≡ second
  second_is = rw (fields_split s, both_there.0, fields_split second, second_alone.0)

  -- what the code reads: from the comma on, past the spaces
  module _ (r : ℕ) (comma_at : MarkFound comma comma s r) where
    pub comma_inside : r < length s
    comma_inside = by_end (eqb r (length s)) refl
      where
        by_end : (t : Bool) → eqb r (length s) ≡ t → r < length s
        by_end true e = absurd (false≢true (sym (markless comma comma s r comma_at (eqb-true r (length s) e)) ∙ both_there.0))
        by_end false e = omega (arith, comma_at.within, eqb-false r (length s) e)

    module _ (t : List ℕ) (n : ℕ) (tail : t ≡ drop (r + 1) s) (spaced : Leads t (unspaced t) n) where
      pub number_inside : r + 1 + n ≤ length s
      number_inside = let l = spaced.within in let size : length t ≡ length s - (r + 1) = ap length tail ∙ length-drop (r + 1) s in omega (arith, l, size, comma_inside)

      pub number_there : drop (r + 1 + n) s ≡ unspaced second
      number_there =
          let same = tail ∙ rest comma comma s r comma_at in
          sym (drop-drop n (r + 1) s) ∙ ap (drop n) (sym tail) ∙ spaced.left ∙ ap unspaced same

      pub second_read : value_of (leading 10 (drop (r + 1 + n) s)) ≡ value_of (unspaced (get_or (fields_in s) 1 []))
      second_read =
          ap (λ (d : List ℕ). value_of (leading 10 d)) number_there
          ∙ ap value_of (whole_leading 1 10 1 9999999999 (unspaced second) second_alone.1 ∙ ap unspaced (sym second_is))

-- ---- a line, test by test

module _ (ks : List Field) (l : List ℕ) where
  abbrev body_right : Bool
  body_right = all_printable (body l) && fit_all ks (fields_in (body l))

  pub line_too_long : longest_line < length l → false ≡ is_right ks l
  unfolding is_right
  line_too_long h = sym (rw (lt-leb (length l) longest_line h))

  pub line_open : ends_cr_lf l ≡ false → false ≡ is_right ks l
  unfolding is_right
  line_open e = sym (rw (e, and-false (leb (length l) longest_line)))

  pub line_closed : length l ≤ longest_line → ends_cr_lf l ≡ true → (r : Bool) → r ≡ body_right → r ≡ is_right ks l
  unfolding is_right
  line_closed h e r f = f ∙ sym (rw (le-leb (length l) longest_line h, e))

  module _ (right : is_right ks l ≡ true) where
    closed_fields : ends_cr_lf l && body_right ≡ true
    unfolding is_right
    closed_fields = (both_true (leb (length l) longest_line) (ends_cr_lf l && body_right) right).1

    pub right_long : 2 ≤ length l
    right_long = ends_long l (both_true (ends_cr_lf l) body_right closed_fields).0

    pub right_fields_law : fit_all ks (fields_in (body l)) ≡ true
    right_fields_law = (both_true (all_printable (body l)) _ (both_true (ends_cr_lf l) body_right closed_fields).1).1

module _ (line : ℕ) (l : List ℕ) where
  pub not_due : is_due line ≡ false → false ≡ is_right_at line l
  not_due e = sym (rw e)

  pub due_line : is_due line ≡ true → (r : Bool) → r ≡ is_right (shape_at (line - 1)).fields l → r ≡ is_right_at line l
  due_line h r e = e ∙ sym (rw h)

-- ---- the refusal number of the line that is due

module _ (line : ℕ) where
  pub number_due_here : is_due line ≡ true → number_due line ≡ (shape_at (line - 1)).number
  number_due_here e = rw e

  pub number_due_after : is_due line ≡ false → number_due line ≡ multiplier
  number_due_after e = rw e
