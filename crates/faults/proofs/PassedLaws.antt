-- A text of digits and commas, and what one byte more makes of it: its fields, and how often a byte stands in it.
-- Assumes nothing.
use mathlib.Core.Path.{◌≡◌, refl, sym, ap, ◌∙◌}
use mathlib.Core.Bool.{Bool, true, false, cond}
use mathlib.Core.List.{List, [], ◌∷◌, ◌++◌}
use Prim.Native.Nat.{ℕ, ◌+◌, ◌≤◌}
use native.Mathlib.Omega.{arith}
use lib.Dec.{eqb, lit<}
use lib.ListN.{length, length-append}
use borrow.Author.Tests.{eq-eqb}
use Rattle.text.specs.Number.{is_digit, all_digits}
use Rattle.text.specs.Line.{comma, cr, into_first, fields_in}
use Rattle.faults.specs.Fault.{count_of, last_of, begun, digits_in, since_cr}
use Rattle.checks.proofs.Cases.{by_cond}
use Rattle.checks.proofs.Tests.{both_true}
use Rattle.text.proofs.DigitLaws.{digit_is_not}

-- ---- how often a byte stands in a text

module _ (b : ℕ) where
  pub count_other : (t : List ℕ) (a : ℕ) → eqb a b ≡ false → count_of b (t ++ (a ∷ [])) ≡ count_of b t
  unfolding count_of
  count_other [] a e = rw e
  count_other (c ∷ t) a e = ap (λ (n : ℕ). cond (eqb c b) (n + 1) n) (count_other t a e)

  pub count_same : (t : List ℕ) → count_of b (t ++ (b ∷ [])) ≡ count_of b t + 1
  unfolding count_of
  count_same [] = rw (eq-eqb b b refl)
  count_same (c ∷ t) = ap (λ (n : ℕ). cond (eqb c b) (n + 1) n) (count_same t) ∙ by_cond (λ (n : ℕ). cond (eqb c b) (count_of b t + 1 + 1) (count_of b t + 1) ≡ n + 1) (eqb c b) (count_of b t + 1) (count_of b t) (λ e. rw e) (λ e. rw e)

  pub count_nothing : count_of b [] ≡ 0
  unfolding count_of
  count_nothing = refl

-- what stands after the first CR
pub since_cr_law : (t u : List ℕ) → count_of cr t ≡ 0 → since_cr (t ++ cr ∷ u) ≡ u
unfolding count_of since_cr
since_cr_law [] u h = refl
since_cr_law (a ∷ t) u h = by_none (eqb a cr) h (since_cr_law t u)
  where
    by_none : (e : Bool) → cond e (count_of cr t + 1) (count_of cr t) ≡ 0 → (count_of cr t ≡ 0 → since_cr (t ++ cr ∷ u) ≡ u) → cond e (t ++ cr ∷ u) (since_cr (t ++ cr ∷ u)) ≡ u
    by_none true h more = absurd (omega (arith, h))
    by_none false h more = more h

pub since_none : (t : List ℕ) → count_of cr t ≡ 0 → since_cr t ≡ []
unfolding count_of since_cr
since_none [] h = refl
since_none (a ∷ t) h = by_none (eqb a cr) h (since_none t)
  where
    by_none : (e : Bool) → cond e (count_of cr t + 1) (count_of cr t) ≡ 0 → (count_of cr t ≡ 0 → since_cr t ≡ []) → cond e t (since_cr t) ≡ []
    by_none true h more = absurd (omega (arith, h))
    by_none false h more = more h

-- ---- the fields of a text

-- one byte more at the end of the last field
abbrev onto_last : ℕ → List (List ℕ) → List (List ℕ)
onto_last b [] = (b ∷ []) ∷ []
onto_last b (f ∷ []) = (f ++ (b ∷ [])) ∷ []
onto_last b (f ∷ g ∷ gs) = f ∷ onto_last b (g ∷ gs)

into_onto : (a b : ℕ) (fs : List (List ℕ)) → into_first a (onto_last b fs) ≡ onto_last b (into_first a fs)
into_onto a b [] = refl
into_onto a b (f ∷ []) = refl
into_onto a b (f ∷ g ∷ gs) = refl

onto_more : (b : ℕ) (f : List ℕ) (fs : List (List ℕ)) → 1 ≤ length fs → onto_last b (f ∷ fs) ≡ f ∷ onto_last b fs
onto_more b f [] h = absurd (omega arith)
onto_more b f (g ∷ gs) h = refl

into_append : (a : ℕ) (fs gs : List (List ℕ)) → 1 ≤ length fs → into_first a (fs ++ gs) ≡ into_first a fs ++ gs
into_append a [] gs h = absurd (omega arith)
into_append a (f ∷ fs) gs h = refl

into_length : (a : ℕ) (fs : List (List ℕ)) → 1 ≤ length fs → length (into_first a fs) ≡ length fs
into_length a [] h = absurd (omega arith)
into_length a (f ∷ fs) h = refl

pub fields_count : (t : List ℕ) → length (fields_in t) ≡ count_of comma t + 1
unfolding fields_in count_of
fields_count [] = refl
fields_count (a ∷ t) = by_comma (eqb a comma) (fields_count t)
  where
    by_comma : (e : Bool) → length (fields_in t) ≡ count_of comma t + 1
        → length (cond e ([] ∷ fields_in t) (into_first a (fields_in t))) ≡ cond e (count_of comma t + 1) (count_of comma t) + 1
    by_comma true h = omega (arith, h)
    by_comma false h = into_length a (fields_in t) (omega (arith, h)) ∙ h

fields_some : (t : List ℕ) → 1 ≤ length (fields_in t)
fields_some t = omega (arith, fields_count t)

fields_comma : (t : List ℕ) → fields_in (t ++ (comma ∷ [])) ≡ fields_in t ++ ([] ∷ [])
unfolding fields_in
fields_comma [] = refl
fields_comma (a ∷ t) = ap (λ (fs : List (List ℕ)). cond (eqb a comma) ([] ∷ fs) (into_first a fs)) (fields_comma t) ∙ by_comma (eqb a comma)
  where
    by_comma : (e : Bool) → cond e ([] ∷ (fields_in t ++ ([] ∷ []))) (into_first a (fields_in t ++ ([] ∷ []))) ≡ cond e ([] ∷ fields_in t) (into_first a (fields_in t)) ++ ([] ∷ [])
    by_comma true = refl
    by_comma false = into_append a (fields_in t) ([] ∷ []) (fields_some t)

fields_more : (t : List ℕ) (b : ℕ) → eqb b comma ≡ false → fields_in (t ++ (b ∷ [])) ≡ onto_last b (fields_in t)
unfolding fields_in
fields_more [] b h = rw h
fields_more (a ∷ t) b h = ap (λ (fs : List (List ℕ)). cond (eqb a comma) ([] ∷ fs) (into_first a fs)) (fields_more t b h) ∙ by_comma (eqb a comma)
  where
    by_comma : (e : Bool) → cond e ([] ∷ onto_last b (fields_in t)) (into_first a (onto_last b (fields_in t))) ≡ onto_last b (cond e ([] ∷ fields_in t) (into_first a (fields_in t)))
    by_comma true = sym (onto_more b [] (fields_in t) (fields_some t))
    by_comma false = into_onto a b (fields_in t)

onto_done : (b : ℕ) (done : List (List ℕ)) (current : List ℕ) → onto_last b (done ++ (current ∷ [])) ≡ done ++ ((current ++ (b ∷ [])) ∷ [])
onto_done b [] current = refl
onto_done b (f ∷ []) current = refl
onto_done b (f ∷ g ∷ gs) current = ap (λ (fs : List (List ℕ)). f ∷ fs) (onto_done b (g ∷ gs) current)

last_done : (done : List (List ℕ)) (current : List ℕ) → last_of (done ++ (current ∷ [])) ≡ current
unfolding last_of
last_done [] current = refl
last_done (f ∷ []) current = refl
last_done (f ∷ g ∷ gs) current = last_done (g ∷ gs) current

-- ---- digits

more_digits : (ds : List ℕ) (d : ℕ) → all_digits ds ≡ true → is_digit d ≡ true → all_digits (ds ++ (d ∷ [])) ≡ true
unfolding all_digits
more_digits [] d h e = rw e
more_digits (c ∷ ds) d h e =
    let (first, rest) = both_true (is_digit c) (all_digits ds) h in
    rw (first, more_digits ds d rest e)

all_counted : (ds : List ℕ) → all_digits ds ≡ true → digits_in ds ≡ length ds
unfolding all_digits digits_in
all_counted [] h = refl
all_counted (d ∷ ds) h =
    let (first, rest) = both_true (is_digit d) (all_digits ds) h in
    rw (first, all_counted ds rest) (omega arith)

-- ---- a text of digits and commas: the fields that are closed, and the digits of the one that has begun

pub record Passed (t : List ℕ) (done : List (List ℕ)) (current : List ℕ) : Type 0 where
  pub no_cr_law : count_of cr t ≡ 0
  pub fields : fields_in t ≡ done ++ (current ∷ [])
  pub digits : all_digits current ≡ true

pub passed_nothing : Passed [] [] []
unfolding fields_in all_digits
passed_nothing = record { no_cr_law = count_nothing cr; fields = refl; digits = refl }

module _ {t : List ℕ} {done : List (List ℕ)} {current : List ℕ} (p : Passed t done current) where
  pub passed_digit : (d : ℕ) → is_digit d ≡ true → Passed (t ++ (d ∷ [])) done (current ++ (d ∷ []))
  passed_digit d e = record {
    no_cr_law = count_other cr t d (digit_is_not cr d (lit< tt) e) ∙ p.no_cr_law;
    fields = fields_more t d (digit_is_not comma d (lit< tt) e) ∙ ap (onto_last d) p.fields ∙ onto_done d done current;
    digits = more_digits current d p.digits e;
  }

  pub passed_comma : Passed (t ++ (comma ∷ [])) (done ++ (current ∷ [])) []
  unfolding all_digits
  passed_comma = record {
    no_cr_law = count_other cr t comma refl ∙ p.no_cr_law;
    fields = fields_comma t ∙ ap (λ (fs : List (List ℕ)). fs ++ ([] ∷ [])) p.fields;
    digits = refl;
  }

  pub passed_commas : count_of comma t ≡ length done
  passed_commas = omega (arith, fields_count t, ap length p.fields, length-append done (current ∷ []))

  pub passed_begun : begun t ≡ current
  passed_begun = ap last_of p.fields ∙ last_done done current

  pub passed_digits : digits_in (begun t) ≡ length current
  passed_digits = ap digits_in passed_begun ∙ all_counted current p.digits
