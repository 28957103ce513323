-- A text from a place on, byte by byte: its first mark, its first spaces, and whether every byte is in a range.
-- Assumes nothing.
use mathlib.Core.Path.{◌≡◌, refl, sym, ap, ◌∙◌}
use mathlib.Core.Bool.{Bool, true, false, cond, not, ◌&&◌, ◌||◌, false≢true}
use mathlib.Core.List.{List, [], ◌∷◌, ◌++◌}
use Prim.Native.Nat.{ℕ, suc, ◌+◌, ◌-◌, ◌≤◌, ◌<◌}
use native.Mathlib.Numerals.{add-one}
use native.Mathlib.Omega.{arith}
use lib.Dec.{eqb, ltb}
use lib.ListN.{length, get_or, take, drop, length-take, length-drop, drop_of_length-le}
use lib.Seq.{take-length}
use borrow.Author.Tests.{ne_eqb, lt-ltb, le-ltb, ltb-true, ltb-false}
use Rattle.std.specs.Prelude.{Option, Some, None, unwrap_or}
use Rattle.std.specs.List.{position_or_len, list_all}
use Rattle.checks.specs.Range.{in_range}
use Rattle.checks.proofs.Cases.{by_cond, same_test}
use Rattle.checks.proofs.Tests.{both_true, in_range_law}
use Rattle.text.specs.Number.{all_digits}
use Rattle.text.specs.Line.{comma, into_first, fields_in}
use Rattle.text.proofs.DigitLaws.{all_digits_nil, all_digits_cons}
use Rattle.text.proofs.LackLaws.{lacks, nothing_lacks, more_lacks}
use Rattle.text.proofs.ShapeLaws.{fields_nil, fields_cons}
use Rattle.fields.specs.device.Calls.{Leads, MarkFound}
use Rattle.fields.specs.Marks.{is_mark, has, before, after, space, unspaced, unmarked, begins_with, all_within}

suc_ltb : (a b : ℕ) → ltb (suc a) (suc b) ≡ ltb a b
suc_ltb a b =
    same_test (ltb (suc a) (suc b)) (ltb a b)
    (λ t. lt-ltb a b (omega (arith, ltb-true (suc a) (suc b) t))) (λ t. lt-ltb (suc a) (suc b) (omega (arith, ltb-true a b t)))

-- ---- a test after another

pub passed_first : (a b r : Bool) → a ≡ true → r ≡ b → r ≡ a && b
passed_first a b r e f = f ∙ sym (rw e)

-- ---- what stands before the first mark, and after it

module _ (m n : ℕ) where
  before_taken : (s : List ℕ) → take (length (before m n s)) s ≡ before m n s
  unfolding before
  before_taken [] = refl
  before_taken (b ∷ s) =
      by_cond (λ (l : List ℕ). take (length l) (b ∷ s) ≡ l) (is_mark m n b) [] (b ∷ before m n s)
      (λ e. refl) (λ e. ap (λ (l : List ℕ). b ∷ l) (before_taken s))

  pub after_dropped : (s : List ℕ) → drop (length (before m n s) + 1) s ≡ after m n s
  unfolding before after
  after_dropped [] = refl
  after_dropped (b ∷ s) = rw add-one (dropped_by (is_mark m n b) (after_dropped s))
    where
      dropped_by : (t : Bool) → drop (length (before m n s) + 1) s ≡ after m n s → drop (length (cond t [] (b ∷ before m n s))) s ≡ cond t s (after m n s)
      dropped_by true h = refl
      dropped_by false h = rw add-one at h

  before_short : (s : List ℕ) → length (before m n s) ≤ length s
  unfolding before
  before_short [] = omega arith
  before_short (b ∷ s) =
      by_cond (λ (l : List ℕ). length l ≤ suc (length s)) (is_mark m n b) [] (b ∷ before m n s)
      (λ e. omega arith) (λ e. omega (arith, before_short s))

  has_mark_law : (s : List ℕ) → has m n s ≡ ltb (length (before m n s)) (length s)
  unfolding has before
  has_mark_law [] = refl
  has_mark_law (b ∷ s) = by_mark (is_mark m n b) (has_mark_law s)
    where
      by_mark : (t : Bool) → has m n s ≡ ltb (length (before m n s)) (length s) → t || has m n s ≡ ltb (length (cond t [] (b ∷ before m n s))) (suc (length s))
      by_mark true h = sym (lt-ltb 0 (suc (length s)) (omega arith))
      by_mark false h = h ∙ sym (suc_ltb (length (before m n s)) (length s))

  pub after_none : (s : List ℕ) → has m n s ≡ false → after m n s ≡ []
  unfolding has after
  after_none [] h = refl
  after_none (b ∷ s) h = by_mark (is_mark m n b) h (after_none s)
    where
      by_mark : (t : Bool) → t || has m n s ≡ false → (has m n s ≡ false → after m n s ≡ []) → cond t s (after m n s) ≡ []
      by_mark true e more = absurd (false≢true (sym e))
      by_mark false e more = more e

-- ---- the place of the first byte that passes a test, as the library finds it

place_within : (p : ℕ → Bool) (s : List ℕ) → position_or_len p s ≤ length s
place_within p [] = omega arith
place_within p (b ∷ s) = by_first (p b) (place_within p s)
  where
    by_first : (t : Bool) → position_or_len p s ≤ length s → cond (not t) (1 + position_or_len p s) 0 ≤ suc (length s)
    by_first true h = omega arith
    by_first false h = omega arith

module _ (p : ℕ → Bool) (s : List ℕ) (o : Option ℕ) (r : ℕ)
    (e : o ≡ cond (ltb (position_or_len p s) (length s)) (Some (position_or_len p s)) None) (f : r ≡ unwrap_or o (length s)) where
  first_place : r ≡ position_or_len p s
  first_place = f ∙ ap (λ (x : Option ℕ). unwrap_or x (length s)) e ∙ by_place (ltb (position_or_len p s) (length s)) refl
    where
      by_place : (t : Bool) → ltb (position_or_len p s) (length s) ≡ t → unwrap_or (cond t (Some (position_or_len p s)) None) (length s) ≡ position_or_len p s
      by_place true h = refl
      by_place false h = omega (arith, place_within p s, ltb-false (position_or_len p s) (length s) h)

module _ (m n : ℕ) where
  before_place : (s : List ℕ) → length (before m n s) ≡ position_or_len (is_mark m n) s
  unfolding before
  before_place [] = refl
  before_place (b ∷ s) = by_mark (is_mark m n b) (before_place s)
    where
      by_mark : (t : Bool) → length (before m n s) ≡ position_or_len (is_mark m n) s
          → length (cond t [] (b ∷ before m n s)) ≡ cond (not t) (1 + position_or_len (is_mark m n) s) 0
      by_mark true h = refl
      by_mark false h = omega arith

  pub mark_place : (s : List ℕ) (o : Option ℕ) (r : ℕ)
      → o ≡ cond (ltb (position_or_len (is_mark m n) s) (length s)) (Some (position_or_len (is_mark m n) s)) None → r ≡ unwrap_or o (length s)
      → MarkFound m n s r
  mark_place s o r e f =
      let place = first_place (is_mark m n) s o r e f in
      record { counted = place ∙ sym (before_place s); within = omega (arith, place, place_within (is_mark m n) s) }

-- what the code finds
module _ (m n : ℕ) (s : List ℕ) (r : ℕ) (found : MarkFound m n s r) where
  pub front : take r s ≡ before m n s
  front = ap (λ (k : ℕ). take k s) found.counted ∙ before_taken m n s

  pub rest : drop (r + 1) s ≡ after m n s
  rest = ap (λ (k : ℕ). drop (k + 1) s) found.counted ∙ after_dropped m n s

  pub marked : (r ≡ length s → ⊥) → has m n s ≡ true
  marked h = has_mark_law m n s ∙ lt-ltb (length (before m n s)) (length s) (omega (arith, found.counted, found.within, h))

  module _ (end : r ≡ length s) where
    pub markless : has m n s ≡ false
    markless = has_mark_law m n s ∙ le-ltb (length (before m n s)) (length s) (omega (arith, found.counted, end))

    pub nothing_after : after m n s ≡ []
    nothing_after =
        let past : length s ≤ r + 1 = omega (arith, end) in
        sym rest ∙ drop_of_length-le s past

pub part_length : (s : List ℕ) (n : ℕ) → n ≤ length s → n ≡ length (take n s)
part_length s n h = rw length-take (omega (arith, h))

-- all that is left
pub tail_part : (s : List ℕ) (n : ℕ) → take (length s - n) (drop n s) ≡ drop n s
tail_part s n = rw (← length-drop n s) (take-length (drop n s))

-- ---- spaces and signs in front

abbrev pub no_space : ℕ → Bool
no_space b = not (eqb b space)

unspaced_at : (s : List ℕ) → drop (position_or_len no_space s) s ≡ unspaced s
unfolding unspaced
unspaced_at [] = refl
unspaced_at (b ∷ s) = by_space (eqb b space) (unspaced_at s)
  where
    by_space : (t : Bool) → drop (position_or_len no_space s) s ≡ unspaced s
        → drop (cond (not (not t)) (1 + position_or_len no_space s) 0) (b ∷ s) ≡ cond t (unspaced s) (b ∷ s)
    by_space true h = let e : 1 + position_or_len no_space s ≡ suc (position_or_len no_space s) = omega arith in rw e h
    by_space false h = refl

pub space_place : (s : List ℕ) (o : Option ℕ) (r : ℕ)
    → o ≡ cond (ltb (position_or_len no_space s) (length s)) (Some (position_or_len no_space s)) None → r ≡ unwrap_or o (length s)
    → Leads s (unspaced s) r
space_place s o r e f =
    let place = first_place no_space s o r e f in
    record { within = omega (arith, place, place_within no_space s); left = rw place (unspaced_at s) }

pub nothing_begins : (m : ℕ) (s : List ℕ) → length s ≡ 0 → begins_with m s ≡ false
unfolding begins_with
nothing_begins m [] e = refl
nothing_begins m (b ∷ s) e = absurd (omega arith)

pub begins_by_first : (m : ℕ) (s : List ℕ) → 0 < length s → begins_with m s ≡ eqb (get_or s 0 0) m
unfolding begins_with
begins_by_first m [] e = absurd (omega arith)
begins_by_first m (b ∷ s) e = refl

module _ (m n : ℕ) where
  pub mark_first : (s : List ℕ) → 0 < length s → is_mark m n (get_or s 0 0) ≡ true → Leads s (unmarked m n s) 1
  unfolding unmarked
  mark_first [] h e = absurd (omega arith)
  mark_first (b ∷ s) h e = record { within = omega arith; left = rw e }

  pub no_mark_first : (s : List ℕ) → (0 < length s → is_mark m n (get_or s 0 0) ≡ false) → Leads s (unmarked m n s) 0
  unfolding unmarked
  no_mark_first [] h = record { within = omega arith; left = refl }
  no_mark_first (b ∷ s) h = record { within = omega arith; left = let e = h (omega arith) in rw e }

-- ---- every byte in a range

pub all_in_range : (low high : ℕ) (s : List ℕ) → list_all (in_range low high) s ≡ all_within low high s
unfolding all_within
all_in_range low high [] = refl
all_in_range low high (b ∷ s) = ap (λ (t : Bool). in_range low high b && t) (all_in_range low high s)

pub digits_within : (s : List ℕ) → all_within 48 57 s ≡ all_digits s
unfolding all_within
digits_within [] = sym all_digits_nil
digits_within (b ∷ s) = ap (λ (t : Bool). in_range 48 57 b && t) (digits_within s) ∙ sym (all_digits_cons b s)

-- two texts together, and a byte that stands before the range
module _ (low high : ℕ) where
  pub nothing_within : all_within low high [] ≡ true
  unfolding all_within
  nothing_within = refl

  pub one_within : (b : ℕ) → in_range low high b ≡ true → all_within low high (b ∷ []) ≡ true
  unfolding all_within
  one_within b e = rw e

  pub join_within : (s t : List ℕ) → all_within low high s ≡ true → all_within low high t ≡ true → all_within low high (s ++ t) ≡ true
  unfolding all_within
  join_within [] t h k = k
  join_within (b ∷ s) t h k =
      let (first, others) = both_true (in_range low high b) (all_within low high s) h in
      rw (first, join_within s t others k)

  pub within_lacks : (a : ℕ) → a < low → (s : List ℕ) → all_within low high s ≡ true → lacks a s ≡ true
  unfolding all_within
  within_lacks a l [] h = nothing_lacks a
  within_lacks a l (b ∷ s) h =
      let (first, others) = both_true (in_range low high b) (all_within low high s) h in
      more_lacks a b s (ne_eqb b a (λ e. omega (arith, e, l, (in_range_law low high b first).0))) (within_lacks a l s others)

-- ---- the fields of a text: what stands before its first comma, and those of what stands after it

into_split : (b : ℕ) (t : Bool) (f g : List ℕ) (fs : List (List ℕ)) → into_first b (cond t (f ∷ fs) (g ∷ [])) ≡ cond t ((b ∷ f) ∷ fs) ((b ∷ g) ∷ [])
into_split b true f g fs = refl
into_split b false f g fs = refl

pub fields_split : (t : List ℕ) → fields_in t ≡ cond (has comma comma t) (before comma comma t ∷ fields_in (after comma comma t)) (t ∷ [])
unfolding has before after
fields_split [] = fields_nil
fields_split (b ∷ t) = fields_cons b t ∙ by_comma (eqb b comma) (fields_split t)
  where
    by_comma : (e : Bool) → fields_in t ≡ cond (has comma comma t) (before comma comma t ∷ fields_in (after comma comma t)) (t ∷ [])
        → cond e ([] ∷ fields_in t) (into_first b (fields_in t))
        ≡ cond ((e || e) || has comma comma t) (cond (e || e) [] (b ∷ before comma comma t) ∷ fields_in (cond (e || e) t (after comma comma t))) ((b ∷ t) ∷ [])
    by_comma true h = refl
    by_comma false h =
        ap (into_first b) h ∙ into_split b (has comma comma t) (before comma comma t) t (fields_in (after comma comma t))
