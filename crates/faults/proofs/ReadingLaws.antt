-- How far the reader has come in a line: the fields that it has passed, and the digits of the one that has begun.
-- Assumes nothing.
use mathlib.Core.Path.{◌≡◌, refl, sym, ap, ◌∙◌}
use mathlib.Core.Bool.{Bool, true, false, cond, false≢true}
use mathlib.Core.List.{List, [], ◌∷◌, ◌++◌}
use Prim.Native.Nat.{ℕ, zero, suc, ◌+◌, ◌-◌, ◌*◌, ◌^◌, ◌≤◌, ◌<◌}
use native.Mathlib.Nat.{lt_of_not-le, add-zero}
use native.Mathlib.Numerals.{add-one}
use native.Mathlib.Omega.{arith}
use lib.Dec.{leb, eqb, lit<}
use lib.ListN.{length, get_or, take, drop, set, replicate, length-append, length-drop, get_or-eq_default}
use lib.Seq.{length-take-le, take-suc, drop-cons, get_or-drop}
use borrow.Author.Tests.{eqb-true, eqb-false, leb-true}
use Rattle.std.specs.Prelude.{Option, Some, None, Result, Ok, Err}
use Rattle.faults.specs.declared.fault.Fault.{Fault}
use Rattle.faults.specs.declared.fault.Flaw.TheVariants.{DigitTooMany, LineEnd}
use Rattle.faults.specs.declared.reader.Closing.{Closing}
use Rattle.faults.specs.declared.reader.Closing.TheVariants.{Next, Last}
use Rattle.text.specs.Number.{digit_limit, is_digit, value_from, value_of}
use Rattle.text.specs.Line.{field_limit, comma, lf, values_of, numbers_of}
use Rattle.faults.specs.Fault.{is_empty, begins, begins_digit, faults_from, told, shape_of}
use Rattle.faults.specs.Reader.{narrow, placed, line_answer}
use Rattle.faults.specs.device.Closing.{flawed_at, ending_of, closes_none, closing_by, closing_of, shape_by}
use Rattle.checks.proofs.Cases.{not_both}
use Rattle.checks.proofs.Tests.{both_true, in_range_law}
use Rattle.text.proofs.DigitLaws.{one_more_law}
use Rattle.text.proofs.StoreLaws.{sets_append}
use Rattle.faults.proofs.PassedLaws.{Passed, passed_nothing, passed_digit, passed_comma}
use Rattle.faults.proofs.FaultLaws.{digit_goes_on, digit_too_many_law, field_closes}

-- ---- widths

pub narrow_at : (ws : List ℕ) (k : ℕ) → narrow ws ≡ true → get_or ws k 0 ≤ digit_limit
narrow_at [] zero h = omega arith
narrow_at [] (suc k) h = omega arith
narrow_at (w ∷ ws) zero h = leb-true w digit_limit (both_true (leb w digit_limit) _ h).0
narrow_at (w ∷ ws) (suc k) h = narrow_at ws k (both_true (leb w digit_limit) _ h).1

-- ---- values

value_more : (v : ℕ) (ds : List ℕ) (d : ℕ) → value_from v (ds ++ (d ∷ [])) ≡ value_from v ds * 10 + (d - 48)
unfolding value_from
value_more v [] d = refl
value_more v (c ∷ ds) d = value_more (v * 10 + (c - 48)) ds d

value_none : value_of [] ≡ 0
unfolding value_from
value_none = refl

values_more : (fs : List (List ℕ)) (f : List ℕ) → values_of (fs ++ (f ∷ [])) ≡ values_of fs ++ (value_of f ∷ [])
values_more [] f = refl
values_more (g ∷ fs) f = ap (λ (ns : List ℕ). value_of g ∷ ns) (values_more fs f)

values_count : (fs : List (List ℕ)) → length (values_of fs) ≡ length fs
values_count [] = refl
values_count (f ∷ fs) = ap suc (values_count fs)

placed_more : (fs : List (List ℕ)) (f : List ℕ) → set (placed (values_of fs)) (length fs) (value_of f) ≡ placed (values_of (fs ++ (f ∷ [])))
placed_more fs f =
    let z : 0 + length (values_of fs) ≡ length fs = omega (arith, values_count fs) in
    sym (ap placed (values_more fs f) ∙ sets_append (replicate field_limit 0) 0 (values_of fs) (value_of f ∷ []) ∙ rw z)

-- ---- what closes the last field

abbrev is_last : Result Closing Fault → Bool
is_last (Ok Next) = false
is_last (Ok Last) = true
is_last (Err f) = false

ending_last : (stray none is_comma last : Bool) (at field : ℕ) (x : Result Closing Fault) → is_last (closing_by stray none is_comma last at field x) ≡ true → is_last x ≡ true
unfolding closing_by
ending_last true none is_comma last at field x e = absurd (false≢true e)
ending_last false true is_comma last at field x e = absurd (false≢true e)
ending_last false false true true at field x e = absurd (false≢true e)
ending_last false false true false at field x e = absurd (false≢true e)
ending_last false false false true at field x e = e
ending_last false false false false at field x e = absurd (false≢true e)

ending_two : (at field : ℕ) (u : List ℕ) → is_last (ending_of at field u) ≡ true → length u ≡ 2
ending_two at field [] e = absurd (false≢true e)
ending_two at field (b ∷ []) e = absurd (false≢true e)
ending_two at field (b ∷ c ∷ []) e = refl
ending_two at field (b ∷ c ∷ d ∷ u) e = by_lf (eqb c lf) e
  where
    by_lf : (t : Bool) → is_last (cond t (flawed_at LineEnd (at + 2) field) (flawed_at LineEnd (at + 1) field)) ≡ true → suc (suc (suc (length u))) ≡ 2
    by_lf true e = absurd (false≢true e)
    by_lf false e = absurd (false≢true e)

-- ---- what stands before the next field

abbrev is_next : Result Closing Fault → Bool
is_next (Ok Next) = true
is_next (Ok Last) = false
is_next (Err f) = false

next_comma : (stray none is_comma last : Bool) (at field : ℕ) (x : Result Closing Fault) → is_next x ≡ false → is_next (closing_by stray none is_comma last at field x) ≡ true
    → (is_comma ≡ true) × (last ≡ false)
unfolding closing_by
next_comma true none is_comma last at field x n e = absurd (false≢true e)
next_comma false true is_comma last at field x n e = absurd (false≢true e)
next_comma false false true true at field x n e = absurd (false≢true e)
next_comma false false true false at field x n e = (refl, refl)
next_comma false false false true at field x n e = absurd (not_both (is_next x) e n)
next_comma false false false false at field x n e = absurd (false≢true e)

ending_not_next : (at field : ℕ) (u : List ℕ) → is_next (ending_of at field u) ≡ false
ending_not_next at field [] = refl
ending_not_next at field (b ∷ u) = by_tests (begins lf u) (is_empty (drop 1 u))
  where
    by_tests : (x y : Bool) → is_next (cond x (cond y (Ok Last) (flawed_at LineEnd (at + 2) field)) (flawed_at LineEnd (at + 1) field)) ≡ false
    by_tests true true = refl
    by_tests true false = refl
    by_tests false y = refl

begins_inside : (u : List ℕ) → begins comma u ≡ true → 1 ≤ length u
begins_inside [] e = absurd (false≢true e)
begins_inside (a ∷ u) e = omega arith

-- ---- a turn of the reader

pub record FieldRead (ws s : List ℕ) (at k digits value : ℕ) (numbers : List ℕ) : Type 0 where
  pub done : List (List ℕ)
  pub current : List ℕ
  pub within : at ≤ length s
  pub few : k < length ws
  pub fits : digits ≤ get_or ws k 0
  pub small : value < 10 ^ digits
  pub fields : length done ≡ k
  pub counted : length current ≡ digits
  pub worth : value ≡ value_of current
  pub kept : numbers ≡ placed (values_of done)
  pub passed : Passed (take at s) done current
  pub left : told (faults_from ws (take at s) (drop at s)) ≡ shape_of ws s

pub read_first : (ws s : List ℕ) → 1 ≤ length ws → FieldRead ws s 0 0 0 0 (replicate field_limit 0)
unfolding shape_of
read_first ws s h = record {
  done = [];
  current = [];
  within = omega arith;
  few = omega arith;
  fits = omega arith;
  small = lit< tt;
  fields = refl;
  counted = refl;
  worth = sym value_none;
  kept = refl;
  passed = passed_nothing;
  left = refl;
}

module _ (ws s : List ℕ) (at k digits value : ℕ) (numbers : List ℕ) (r : FieldRead ws s at k digits value numbers) where
  abbrev t : List ℕ
  t = take at s

  at_length : length t ≡ at
  at_length = length-take-le at s r.within

  -- where a byte stands, it is the first after those passed
  module _ (inside : at < length s) where
    abbrev b : ℕ
    b = get_or s at 0

    here : drop at s ≡ b ∷ drop (at + 1) s
    here = drop-cons s at 0 inside ∙ rw (add-one at)

    past : take (at + 1) s ≡ t ++ (b ∷ [])
    past = rw (add-one at) (take-suc s at 0 inside)

  digit_inside : is_digit (get_or s at 0) ≡ true → at < length s
  digit_inside e = lt_of_not-le (λ (l : length s ≤ at). not_both (is_digit (get_or s at 0)) e (rw (get_or-eq_default s 0 {n = at} l)))

  module _ (e : is_digit (get_or s at 0) ≡ true) where
    abbrev d : ℕ
    d = get_or s at 0

    pub read_digit : (digits ≡ get_or ws k 0 → ⊥) → FieldRead ws s (at + 1) k (digits + 1) (value * 10 + (d - 48)) numbers
    read_digit n =
        let inside = digit_inside e in
        let more : length r.current < get_or ws (length r.done) 0 = rw (r.counted, r.fields) (omega (arith, n, r.fits)) in
        record {
          done = r.done;
          current = r.current ++ (d ∷ []);
          within = omega (arith, inside);
          few = r.few;
          fits = omega (arith, n, r.fits);
          small = one_more_law value (d - 48) digits r.small (omega (arith, (in_range_law 48 57 d e).1));
          fields = r.fields;
          counted = length-append r.current (d ∷ []) ∙ rw r.counted;
          worth = rw r.worth (sym (value_more 0 r.current d));
          kept = r.kept;
          passed = rw (past inside) (passed_digit r.passed d e);
          left = rw (past inside) (sym (digit_goes_on ws t r.done r.current r.passed d (drop (at + 1) s) e more) ∙ ap (λ (u : List ℕ). told (faults_from ws t u)) (sym (here inside)) ∙ r.left);
        }

    pub read_too_many : digits ≡ get_or ws k 0 → Err (record { flaw = DigitTooMany; offset = at; field = k + 1 }) ≡ line_answer ws s
    read_too_many n =
        let inside = digit_inside e in
        let full : get_or ws (length r.done) 0 ≤ length r.current = rw (r.counted, r.fields) (omega (arith, n)) in
        let shape : shape_of ws s ≡ Some (record { flaw = DigitTooMany; offset = at; field = k + 1 }) =
        sym r.left ∙ ap (λ (u : List ℕ). told (faults_from ws t u)) (here inside)
        ∙ digit_too_many_law ws t r.done r.current r.passed d (drop (at + 1) s) e full ∙ rw (at_length, r.fields) in
        rw shape

  -- where no digit stands
  module _ (e : is_digit (get_or s at 0) ≡ false) (c : Result Closing Fault) (q : c ≡ closing_of (eqb (k + 1) (length ws)) digits at (k + 1) (drop at s)) where
    no_digit_here : (u : List ℕ) → drop at s ≡ u → begins_digit u ≡ false
    no_digit_here [] f = refl
    no_digit_here (a ∷ u) f = ap (λ (v : List ℕ). is_digit (get_or v 0 0)) (sym f) ∙ rw (get_or-drop at s 0 0, add-zero at) e

    shape_here : (more : Option Fault) → (begins comma (drop at s) ≡ true → told (faults_from ws (t ++ (comma ∷ [])) (drop 1 (drop at s))) ≡ more)
        → shape_of ws s ≡ shape_by c more
    shape_here more f =
        let closes = field_closes ws t r.done r.current r.passed (rw r.fields r.few) (drop at s) (no_digit_here (drop at s) refl) more f in
        sym r.left ∙ rw (at_length, r.fields, r.counted) at closes ∙ ap (λ (x : Result Closing Fault). shape_by x more) (sym q)

    abbrev rest : Option Fault
    rest = told (faults_from ws (t ++ (comma ∷ [])) (drop 1 (drop at s)))

    shape_by_law : (x : Result Closing Fault) → c ≡ x → shape_of ws s ≡ shape_by x rest
    shape_by_law x e = shape_here rest (λ comma_here. refl) ∙ ap (λ (y : Result Closing Fault). shape_by y rest) e

    pub read_flawed : (f : Fault) → c ≡ Err f → Err f ≡ line_answer ws s
    read_flawed f e = let wrong : shape_of ws s ≡ Some f = shape_by_law (Err f) e in rw wrong

    pub read_last : c ≡ Ok Last → Ok (set numbers k value) ≡ line_answer ws s
    unfolding numbers_of
    read_last e =
        let right : shape_of ws s ≡ None = shape_by_law (Ok Last) e in
        let two : length (drop at s) ≡ 2 =
        ending_two at (k + 1) (drop at s) (ending_last (closes_none (drop at s)) (eqb digits 0) (begins comma (drop at s)) (eqb (k + 1) (length ws)) at (k + 1) (ending_of at (k + 1) (drop at s)) (ap is_last (sym q ∙ e))) in
        let end : length s - 2 ≡ at = omega (arith, two, length-drop at s, r.within) in
        let stored : set numbers k value ≡ placed (values_of (r.done ++ (r.current ∷ []))) =
        rw (r.kept, r.worth, ← r.fields) (placed_more r.done r.current) in
        rw (right, end, r.passed.fields) (ap Ok stored)

    pub read_next : c ≡ Ok Next → FieldRead ws s (at + 1) (k + 1) 0 0 (set numbers k value)
    read_next e =
        let (comma_here, not_last) = next_comma (closes_none (drop at s)) (eqb digits 0) (begins comma (drop at s)) (eqb (k + 1) (length ws)) at (k + 1) (ending_of at (k + 1) (drop at s)) (ending_not_next at (k + 1) (drop at s)) (ap is_next (sym q ∙ e)) in
        let inside = begins_inside (drop at s) comma_here in
        let within : at < length s = omega (arith, inside, length-drop at s) in
        let byte : get_or s at 0 ≡ comma = eqb-true (get_or s at 0) comma (sym (ap (begins comma) (here within)) ∙ comma_here) in
        let next : take (at + 1) s ≡ t ++ (comma ∷ []) = past within ∙ rw byte in
        record {
          done = r.done ++ (r.current ∷ []);
          current = [];
          within = omega (arith, within);
          few = omega (arith, r.few, eqb-false (k + 1) (length ws) not_last);
          fits = omega arith;
          small = lit< tt;
          fields = length-append r.done (r.current ∷ []) ∙ rw r.fields;
          counted = refl;
          worth = sym value_none;
          kept = rw (r.kept, r.worth, ← r.fields) (placed_more r.done r.current);
          passed = rw next (passed_comma r.passed);
          left = rw next (ap (λ (u : List ℕ). told (faults_from ws (t ++ (comma ∷ [])) u)) (sym (ap (drop 1) (here within))) ∙ sym (shape_by_law (Ok Next) e));
        }
