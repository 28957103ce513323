-- Whole numbers and decimals, from what the code has at hand.
-- Assumes nothing.
use mathlib.Core.Path.{◌≡◌, refl, sym, ap, ◌∙◌}
use mathlib.Core.Bool.{Bool, true, false, cond, ◌&&◌, and-false}
use mathlib.Core.List.{List}
use Prim.Native.Nat.{ℕ, ◌+◌, ◌≤◌, ◌<◌, min}
use native.Mathlib.Omega.{arith}
use lib.Dec.{eqb, leb}
use lib.ListN.{length, take, drop}
use borrow.Author.Tests.{eq-eqb, ne_eqb, eqb-true, le-leb, lt-leb}
use Rattle.std.specs.Prelude.{Option, Some, None, option_copied, MatchOption}
use Rattle.std.specs.Borrow.{Bor}
use Rattle.checks.specs.Range.{in_range}
use Rattle.checks.proofs.Cases.{same_test}
use Rattle.checks.proofs.Tests.{both_true}
use Rattle.text.specs.Number.{all_digits, leading, value_of}
use Rattle.text.proofs.DigitLaws.{all_digits_nil, all_leading, leading_all, value_nothing}
use Rattle.text.proofs.ValueLaws.{whole_worth}
use Rattle.fields.specs.Marks.{has, before, after}
use Rattle.fields.specs.Number.{is_whole, point, some_digits, is_of_value, whole_then, optionally, is_unsigned_decimal}
use Rattle.fields.specs.device.Calls.{MarkFound, WholeLeads, large_value}
use Rattle.fields.proofs.MarkLaws.{front, rest as m_rest, marked, markless, nothing_after, after_none}

-- ---- a whole number

regroup : (a l m r : Bool) → a && ((l && m) && r) ≡ (a && m) && (l && r)
regroup false l m r = refl
regroup true true m r = refl
regroup true false m r = sym (and-false m)

module _ (least most low high : ℕ) (s : List ℕ) where
  grouped : is_whole least most low high s ≡ eqb (length (leading most s)) (length s) && (leb least (length s) && in_range low high (value_of s))
  grouped = regroup (all_digits s) (leb least (length s)) (leb (length s) most) (in_range low high (value_of s))
      ∙ ap (λ (t : Bool). t && (leb least (length s) && in_range low high (value_of s))) (sym (all_leading most s))

  -- by what the reader of digits found
  module _ (count value : ℕ) (counted : count ≡ length (leading most s)) (valued : value ≡ value_of (leading most s)) where
    pub whole_uneven : (count ≡ length s → ⊥) → false ≡ is_whole least most low high s
    whole_uneven h = sym (grouped ∙ rw (ne_eqb (length (leading most s)) (length s) (λ e. h (counted ∙ e))))

    module _ (even : count ≡ length s) where
      all_read : is_whole least most low high s ≡ leb least count && in_range low high value
      all_read =
          let all = sym counted ∙ even in
          grouped ∙ rw (eq-eqb (length (leading most s)) (length s) all, even, valued, leading_all most s all)

      pub whole_short : count < least → false ≡ is_whole least most low high s
      whole_short h = sym (all_read ∙ rw (lt-leb least count h))

      pub whole_here : least ≤ count → in_range low high value ≡ is_whole least most low high s
      whole_here h = sym (all_read ∙ rw (le-leb least count h))

-- ---- a whole number up to a mark

some_same : (a b : List ℕ) → ◌≡◌ {A = Option (List ℕ)} (Some a) (Some b) → a ≡ b
some_same a b f = cc

module _ (mark least most low high : ℕ) (s : List ℕ) where
  abbrev leads : Bool
  leads = has mark mark s && is_whole least most low high (before mark mark s)

  -- as the code makes it, from the bytes that stand before the mark
  module _ (n : ℕ) (found : MarkFound mark mark s n) where
    pub unmarked_leads : n ≡ length s → leads ≡ false
    unmarked_leads e = rw (markless mark mark s n found e)

    pub whole_leads : (n ≡ length s → ⊥) → leads ≡ is_whole least most low high (take n s)
    whole_leads more = rw (marked mark mark s n found more, front mark mark s n found)

  pub leads_with : (t : Bool) → leads ≡ t → (o : Option (Bor (List ℕ))) → option_copied o ≡ cond t (Some (after mark mark s)) None
      → WholeLeads mark least most low high s o
  leads_with t e o f = record { told = f ∙ sym (ap (λ (u : Bool). cond u (Some (after mark mark s)) None) e) }

  -- and what it tells of the whole
  module _ (rest : List ℕ → Bool) where
    split : (x y r : Bool) → x && (y && r) ≡ (x && y) && r
    split true y r = refl
    split false y r = refl

    pub then_rest : (o : Option (Bor (List ℕ))) (r : Bool) → WholeLeads mark least most low high s o → MatchOption o (r ≡ false) (λ x. r ≡ rest x.now)
        → r ≡ whole_then mark least most low high rest s
    then_rest o r h e = by_leads leads o h.told e ∙ sym (split (has mark mark s) (is_whole least most low high (before mark mark s)) (rest (after mark mark s)))
      where
        by_leads : (t : Bool) (o : Option (Bor (List ℕ))) → option_copied o ≡ cond t (Some (after mark mark s)) None → MatchOption o (r ≡ false) (λ x. r ≡ rest x.now)
            → r ≡ t && rest (after mark mark s)
        by_leads true (Some x) f e = e ∙ ap rest (some_same x.now (after mark mark s) f)
        by_leads true None f e = cc
        by_leads false (Some x) f e = cc
        by_leads false None f e = e

-- a text of digits that are few enough
pub whole_leading : (least most low high : ℕ) (s : List ℕ) → is_whole least most low high s ≡ true → leading most s ≡ s
whole_leading least most low high s h =
    leading_all most s (eqb-true (length (leading most s)) (length s) (both_true (eqb (length (leading most s)) (length s)) _ (sym (grouped least most low high s) ∙ h)).0)

-- ---- the value of digits, as far as a large one

-- a value below the large one is told by what it is capped to
pub same_capped : (x v : ℕ) → v < large_value → eqb x v ≡ eqb (min x large_value) v
same_capped x v h =
    same_test (eqb x v) (eqb (min x large_value) v)
    (λ t. eq-eqb (min x large_value) v (omega (arith, eqb-true x v t))) (λ t. eq-eqb x v (omega (arith, eqb-true (min x large_value) v t)))

-- ---- digits alone

pub some_all_digits : (s : List ℕ) → 1 ≤ length s → some_digits s ≡ all_digits s
some_all_digits s h = rw (le-leb 1 (length s) h)

-- ---- what stands before a mark, and optionally the mark and what stands after it

module _ (m n : ℕ) (first rest : List ℕ → Bool) (s : List ℕ) (r : ℕ) (found : MarkFound m n s r) where
  pub not_first : first (take r s) ≡ false → false ≡ optionally m n first rest s
  not_first e = sym (rw (← front m n s r found, e))

  module _ (f : first (take r s) ≡ true) where
    pub first_alone : r ≡ length s → true ≡ optionally m n first rest s
    first_alone e = sym (rw (← front m n s r found, f, markless m n s r found e))

    pub first_and_rest : (r ≡ length s → ⊥) → rest (drop (r + 1) s) ≡ optionally m n first rest s
    first_and_rest h = sym (rw (← front m n s r found, f, marked m n s r found h, m_rest m n s r found))

-- ---- the value of a decimal without its sign

decimal_digits : (s : List ℕ) → is_unsigned_decimal s ≡ true → all_digits (after point point s) ≡ true
decimal_digits s h = by_point (has point point s) refl (both_true (some_digits (before point point s)) _ h).1
  where
    by_point : (t : Bool) → has point point s ≡ t → cond t (some_digits (after point point s)) true ≡ true → all_digits (after point point s) ≡ true
    by_point true e k = (both_true (leb 1 (length (after point point s))) (all_digits (after point point s)) k).1
    by_point false e k = rw (after_none point point s e, all_digits_nil)

module _ (v : ℕ) (s : List ℕ) (asked : (is_unsigned_decimal s ≡ true) × (v < large_value)) (r : ℕ) (found : MarkFound point point s r) (w : ℕ)
    (e : w ≡ min (value_of (take r s)) large_value) where
  by_parts_of : is_of_value v s ≡ eqb w v && eqb (value_of (after point point s)) 0
  by_parts_of =
      let front_value : eqb (value_of (before point point s)) v ≡ eqb w v =
      same_capped (value_of (before point point s)) v asked.1 ∙ rw (e, front point point s r found) in
      whole_worth (before point point s) (after point point s) v (decimal_digits s asked.0) ∙ rw front_value

  pub other_value : (w ≡ v → ⊥) → false ≡ is_of_value v s
  other_value n = sym (by_parts_of ∙ rw (ne_eqb w v n))

  module _ (same : w ≡ v) where
    pub value_alone : r ≡ length s → true ≡ is_of_value v s
    value_alone end = sym (by_parts_of ∙ rw (eq-eqb w v same, nothing_after point point s r found end, value_nothing))

    pub value_and_nothing : (d : ℕ) → d ≡ min (value_of (drop (r + 1) s)) large_value → eqb d 0 ≡ is_of_value v s
    value_and_nothing d k =
        let behind : eqb (value_of (after point point s)) 0 ≡ eqb d 0 =
        rw (← m_rest point point s r found) (same_capped (value_of (drop (r + 1) s)) 0 (omega arith) ∙ rw k) in
        sym (by_parts_of ∙ rw (eq-eqb w v same) behind)
