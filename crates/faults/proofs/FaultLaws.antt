-- The fault that is told, offset by offset.
-- Assumes nothing.
use mathlib.Core.Path.{◌≡◌, refl, sym, ap, subst, ◌∙◌}
use mathlib.Core.Bool.{Bool, true, false, cond, not, ◌&&◌, ◌||◌, or-false, and-false, false≢true}
use mathlib.Core.List.{List, [], ◌∷◌, ◌++◌}
use Prim.Native.Nat.{ℕ, suc, ◌+◌, ◌≤◌, ◌<◌}
use native.Mathlib.Omega.{arith}
use lib.Dec.{leb, ltb, eqb, lit<}
use lib.ListN.{length, get_or, drop, length-append}
use lib.Seq.{append_snoc}
use borrow.Author.Tests.{eq-eqb, ne_eqb, eqb-true, eqb-false, le-leb, lt-leb, le-ltb, lt-ltb}
use Rattle.std.specs.Prelude.{Option, Some, None, Ok}
use Rattle.faults.specs.declared.fault.Flaw.{Flaw}
use Rattle.faults.specs.declared.fault.Flaw.TheVariants.{NoDigit, DigitTooMany, StrayByte, FieldCount, LineEnd}
use Rattle.faults.specs.declared.fault.Fault.{Fault}
use Rattle.faults.specs.declared.reader.Closing.TheVariants.{Last}
use Rattle.text.specs.Number.{is_digit}
use Rattle.text.specs.Line.{comma, cr, lf, is_lf}
use Rattle.faults.specs.Fault.{is_empty, begins, begins_digit, begins_stray, count_of, field_at, no_cr, since_cr, right_after_cr_lf, stands, in_order, fault_at, faults_of, faults_here, faults_from, lowest_of, told, shape_of}
use Rattle.faults.specs.device.Closing.{flawed_at, ending_of, closes_none, closing_by, shape_by}
use Rattle.checks.proofs.Cases.{by_cond}
use Rattle.text.proofs.LackLaws.{Each}
use Rattle.text.proofs.DigitLaws.{digit_is_not}
use Rattle.faults.proofs.PassedLaws.{Passed, passed_nothing, passed_commas, passed_begun, passed_digits, count_other, count_same, since_none, since_cr_law}

-- ---- lists of faults

-- all at offsets from n on
abbrev pub From : ℕ → List Fault → Type 0
From n fs = Each (λ (f : Fault). n ≤ f.offset) fs

from_append : (n : ℕ) (fs gs : List Fault) → From n fs → From n gs → From n (fs ++ gs)
from_append n [] gs h k = k
from_append n (f ∷ fs) gs (here, more) k = (here, from_append n fs gs more k)

from_less : (n m : ℕ) → n ≤ m → (fs : List Fault) → From m fs → From n fs
from_less n m l [] h = tt
from_less n m l (f ∷ fs) (here, more) = (omega (arith, l, here), from_less n m l fs more)

-- all at one offset
abbrev pub At : ℕ → List Fault → Type 0
At n fs = Each (λ (f : Fault). f.offset ≡ n) fs

at_from : (n : ℕ) (fs : List Fault) → At n fs → From n fs
at_from n [] h = tt
at_from n (f ∷ fs) (here, more) = (omega (arith, here), at_from n fs more)

-- the first is told, where none has a lower offset
lowest_first : (f : Fault) (fs : List Fault) → From f.offset fs → lowest_of f fs ≡ f
unfolding lowest_of
lowest_first f [] h = refl
lowest_first f (g ∷ gs) (here, more) = rw (le-ltb g.offset f.offset here) (lowest_first f gs more)

told_first : (fs gs : List Fault) (f : Fault) → fs ≡ f ∷ gs → From f.offset fs → told fs ≡ Some f
unfolding told
told_first fs gs f e h =
    let (here, more) : From f.offset (f ∷ gs) = rw e at h in
    rw e (ap Some (lowest_first f gs more))

-- ---- the faults of a line stand in the order of their offsets

module _ (ws : List ℕ) where
  pub here_at : (flaws : List Flaw) (before after : List ℕ) → At (length before) (faults_of flaws ws before after)
  here_at [] before after = tt
  here_at (flaw ∷ flaws) before after =
      by_cond (At (length before)) (stands flaw ws before after) (fault_at flaw before ∷ faults_of flaws ws before after) (faults_of flaws ws before after)
      (λ e. (refl, here_at flaws before after)) (λ e. here_at flaws before after)

  pub from_here : (before after : List ℕ) → From (length before) (faults_from ws before after)
  unfolding faults_from
  from_here before [] = at_from (length before) (faults_here ws before []) (here_at in_order before [])
  from_here before (b ∷ after) =
      let more : length before ≤ length (before ++ (b ∷ [])) = rw length-append (omega arith) in
      from_append (length before) (faults_here ws before (b ∷ after)) (faults_from ws (before ++ (b ∷ [])) after)
      (at_from (length before) (faults_here ws before (b ∷ after)) (here_at in_order before (b ∷ after)))
      (from_less (length before) (length (before ++ (b ∷ []))) more (faults_from ws (before ++ (b ∷ [])) after) (from_here (before ++ (b ∷ [])) after))

  module _ (before : List ℕ) where
    abbrev told_from : List ℕ → Option Fault
    told_from after = told (faults_from ws before after)

    -- where one stands here, the first of those is told
    pub told_here : (after : List ℕ) (f : Fault) (fs : List Fault) → faults_here ws before after ≡ f ∷ fs → told_from after ≡ Some f
    unfolding faults_from
    told_here [] f fs e =
        let (at, more) : At (length before) (f ∷ fs) = rw e at (here_at in_order before []) in
        told_first (faults_from ws before []) fs f e (rw at (from_here before []))
    told_here (b ∷ after) f fs e =
        let (at, more) : At (length before) (f ∷ fs) = rw e at (here_at in_order before (b ∷ after)) in
        told_first (faults_from ws before (b ∷ after)) (fs ++ faults_from ws (before ++ (b ∷ [])) after) f
        (ap (λ (hs : List Fault). hs ++ faults_from ws (before ++ (b ∷ [])) after) e) (rw at (from_here before (b ∷ after)))

    -- where none does, the rest of the line tells
    pub told_later : (b : ℕ) (after : List ℕ) → faults_here ws before (b ∷ after) ≡ [] → told_from (b ∷ after) ≡ told (faults_from ws (before ++ (b ∷ [])) after)
    unfolding faults_from
    told_later b after e = rw e

    pub told_none : faults_here ws before [] ≡ [] → told_from [] ≡ None
    unfolding faults_from told
    told_none e = rw e

    -- ---- by the five tests

    module _ (after : List ℕ) where
      abbrev is : Flaw → Bool → Type 0
      is flaw t = stands flaw ws before after ≡ t

      pub tells_no_digit : is NoDigit true → told_from after ≡ Some (fault_at NoDigit before)
      tells_no_digit a = told_here after (fault_at NoDigit before) (faults_of (DigitTooMany ∷ StrayByte ∷ FieldCount ∷ LineEnd ∷ []) ws before after) (rw a)

      module _ (a : is NoDigit false) where
        pub tells_too_many : is DigitTooMany true → told_from after ≡ Some (fault_at DigitTooMany before)
        tells_too_many b = told_here after (fault_at DigitTooMany before) (faults_of (StrayByte ∷ FieldCount ∷ LineEnd ∷ []) ws before after) (rw (a, b))

        module _ (b : is DigitTooMany false) where
          pub tells_stray : is StrayByte true → told_from after ≡ Some (fault_at StrayByte before)
          tells_stray c = told_here after (fault_at StrayByte before) (faults_of (FieldCount ∷ LineEnd ∷ []) ws before after) (rw (a, b, c))

          module _ (c : is StrayByte false) where
            pub tells_count : is FieldCount true → told_from after ≡ Some (fault_at FieldCount before)
            tells_count d = told_here after (fault_at FieldCount before) (faults_of (LineEnd ∷ []) ws before after) (rw (a, b, c, d))

            module _ (d : is FieldCount false) where
              pub tells_end : is LineEnd true → told_from after ≡ Some (fault_at LineEnd before)
              tells_end e = told_here after (fault_at LineEnd before) (faults_of [] ws before after) (rw (a, b, c, d, e))

              pub none_here : is LineEnd false → faults_here ws before after ≡ []
              none_here e = rw (a, b, c, d, e)

-- ---- right after a text of digits and commas

module _ (ws t : List ℕ) (done : List (List ℕ)) (current : List ℕ) (p : Passed t done current) where
  abbrev k : ℕ
  k = length done

  open_line : no_cr t ≡ true
  open_line = eq-eqb (count_of cr t) 0 p.no_cr_law

  no_lf_after : right_after_cr_lf t ≡ false
  unfolding is_lf
  no_lf_after = rw (since_none t p.no_cr_law)

  field_here : field_at t ≡ k + 1
  field_here = ap (λ (n : ℕ). n + 1) (passed_commas p)

  module _ (u : List ℕ) where
    no_digit_by : stands NoDigit ws t u ≡ is_empty current && (begins comma u || (begins cr u || is_empty u))
    no_digit_by = rw (open_line, passed_begun p)

    too_many_by : stands DigitTooMany ws t u ≡ begins_digit u && leb (get_or ws k 0) (length current)
    too_many_by = rw (open_line, passed_commas p, passed_digits p)

    stray_by : stands StrayByte ws t u ≡ begins_stray u
    stray_by = rw open_line

    count_by : stands FieldCount ws t u ≡ (begins cr u || is_empty u) && ltb (k + 1) (length ws) || begins comma u && leb (length ws) (k + 1)
    count_by = rw (open_line, field_here)

    end_by : stands LineEnd ws t u ≡ is_empty u || (eqb (k + 1) (length ws) && (not (is_empty current) && not (begins_digit u)) && not (begins cr u))
    end_by = rw (open_line, no_lf_after, field_here, passed_begun p) (or-false (is_empty u || (eqb (k + 1) (length ws) && (not (is_empty current) && not (begins_digit u)) && not (begins cr u))))

  no_cr_digit : (a b c : Bool) → a && (b && false) && c ≡ false
  no_cr_digit true true c = refl
  no_cr_digit true false c = refl
  no_cr_digit false b c = refl

  no_cr_due : (a b : Bool) → a && (b && true) && false ≡ false
  no_cr_due true true = refl
  no_cr_due true false = refl
  no_cr_due false b = refl

  fault_here : (flaw : Flaw) → fault_at flaw t ≡ record { flaw = flaw; offset = length t; field = k + 1 }
  fault_here flaw = ap (λ (n : ℕ). record { flaw = flaw; offset = length t; field = n }) field_here

  -- ---- a digit

  module _ (d : ℕ) (u : List ℕ) (e : is_digit d ≡ true) where
    no_comma : eqb d comma ≡ false
    no_comma = digit_is_not comma d (lit< tt) e

    not_cr : eqb d cr ≡ false
    not_cr = digit_is_not cr d (lit< tt) e

    digit_due : stands NoDigit ws t (d ∷ u) ≡ false
    digit_due = no_digit_by (d ∷ u) ∙ rw (no_comma, not_cr) (and-false (is_empty current))

    pub digit_goes_on : length current < get_or ws k 0 → told (faults_from ws t (d ∷ u)) ≡ told (faults_from ws (t ++ (d ∷ [])) u)
    digit_goes_on h =
        told_later ws t d u
        (none_here ws t (d ∷ u) digit_due (too_many_by (d ∷ u) ∙ rw (e, lt-leb (get_or ws k 0) (length current) h)) (stray_by (d ∷ u) ∙ rw e)
        (count_by (d ∷ u) ∙ rw (no_comma, not_cr)) (end_by (d ∷ u) ∙ rw e (no_cr_digit (eqb (k + 1) (length ws)) (not (is_empty current)) (not (eqb d cr)))))

    pub digit_too_many_law : get_or ws k 0 ≤ length current → told (faults_from ws t (d ∷ u)) ≡ Some (record { flaw = DigitTooMany; offset = length t; field = k + 1 })
    digit_too_many_law h =
        tells_too_many ws t (d ∷ u) digit_due (too_many_by (d ∷ u) ∙ rw (e, le-leb (get_or ws k 0) (length current) h)) ∙ ap Some (fault_here DigitTooMany)

  -- ---- after the CR

  abbrev closed : List ℕ
  closed = t ++ (cr ∷ [])

  abbrev whole : List ℕ
  whole = closed ++ (lf ∷ [])

  cr_before : no_cr closed ≡ false
  cr_before = rw (count_same cr t, p.no_cr_law)

  since_closed : since_cr closed ≡ []
  since_closed = since_cr_law t [] p.no_cr_law

  lf_due : (u : List ℕ) → stands LineEnd ws closed u ≡ not (begins lf u)
  unfolding is_lf
  lf_due u = rw (cr_before, since_closed) (or-false (not (begins lf u)))

  fault_closed : fault_at LineEnd closed ≡ record { flaw = LineEnd; offset = length t + 1; field = k + 1 }
  fault_closed = rw (length-append, count_other comma t cr refl, field_here)

  lf_before : no_cr whole ≡ false
  lf_before = rw (count_other cr closed lf refl) cr_before

  since_whole : since_cr whole ≡ lf ∷ []
  since_whole = rw (append_snoc t cr (lf ∷ [])) (since_cr_law t (lf ∷ []) p.no_cr_law)

  end_due : (u : List ℕ) → stands LineEnd ws whole u ≡ not (is_empty u)
  unfolding is_lf
  end_due u = rw (lf_before, since_whole)

  fault_whole : fault_at LineEnd whole ≡ record { flaw = LineEnd; offset = length t + 2; field = k + 1 }
  fault_whole =
      let two : length t + 1 + 1 ≡ length t + 2 = omega arith in
      rw (length-append, length-append, count_other comma closed lf refl, count_other comma t cr refl, field_here, two)

  module _ (u : List ℕ) where
    end_closed : stands LineEnd ws closed u ≡ true → told (faults_from ws closed u) ≡ Some (record { flaw = LineEnd; offset = length t + 1; field = k + 1 })
    end_closed e =
        tells_end ws closed u (rw cr_before) (rw cr_before) (rw cr_before) (rw cr_before) e ∙ ap Some fault_closed

    end_whole : stands LineEnd ws whole u ≡ true → told (faults_from ws whole u) ≡ Some (record { flaw = LineEnd; offset = length t + 2; field = k + 1 })
    end_whole e =
        tells_end ws whole u (rw lf_before) (rw lf_before) (rw lf_before) (rw lf_before) e ∙ ap Some fault_whole

  after_lf : (u : List ℕ) (more : Option Fault) → told (faults_from ws whole u) ≡ shape_by (cond (is_empty u) (Ok Last) (flawed_at LineEnd (length t + 2) (k + 1))) more
  after_lf [] more = told_none ws whole (none_here ws whole [] (rw lf_before) (rw lf_before) (rw lf_before) (rw lf_before) (end_due []))
  after_lf (a ∷ u) more = end_whole (a ∷ u) (end_due (a ∷ u))

  after_cr : (u : List ℕ) (more : Option Fault) → told (faults_from ws closed u) ≡ shape_by (ending_of (length t) (k + 1) (cr ∷ u)) more
  after_cr [] more = end_closed [] (lf_due [])
  after_cr (a ∷ u) more = by_lf (eqb a lf) refl
    where
      by_lf : (e : Bool) → eqb a lf ≡ e
          → told (faults_from ws closed (a ∷ u)) ≡ shape_by (cond e (cond (is_empty u) (Ok Last) (flawed_at LineEnd (length t + 2) (k + 1))) (flawed_at LineEnd (length t + 1) (k + 1))) more
      by_lf true e =
          told_later ws closed a u (none_here ws closed (a ∷ u) (rw cr_before) (rw cr_before) (rw cr_before) (rw cr_before) (lf_due (a ∷ u) ∙ rw e))
          ∙ ap (λ (b : ℕ). told (faults_from ws (closed ++ (b ∷ [])) u)) (eqb-true a lf e)
          ∙ after_lf u more
      by_lf false e = end_closed (a ∷ u) (lf_due (a ∷ u) ∙ rw e)

  -- ---- what closes a field

  module _ (h : k < length ws) where
    abbrev at : ℕ
    at = length t

    abbrev field : ℕ
    field = k + 1

    few_by : (last : Bool) → eqb field (length ws) ≡ last → ltb field (length ws) ≡ not last
    few_by true e = le-ltb field (length ws) (omega (arith, eqb-true field (length ws) e))
    few_by false e = lt-ltb field (length ws) (omega (arith, h, eqb-false field (length ws) e))

    many_by : (last : Bool) → eqb field (length ws) ≡ last → leb (length ws) field ≡ last
    many_by true e = le-leb (length ws) field (omega (arith, eqb-true field (length ws) e))
    many_by false e = lt-leb (length ws) field (omega (arith, h, eqb-false field (length ws) e))

    empty_by : (l : List ℕ) → is_empty l ≡ eqb (length l) 0
    empty_by [] = refl
    empty_by (a ∷ l) = sym (ne_eqb (suc (length l)) 0 (λ e. omega arith))

    -- by whether the field has no digit, and whether it is the last that is due
    abbrev Closes : Bool → Bool → List ℕ → Type 0
    Closes none last u =
        (more : Option Fault) → (begins comma u ≡ true → told (faults_from ws (t ++ (comma ∷ [])) (drop 1 u)) ≡ more)
        → told (faults_from ws t u) ≡ shape_by (closing_by (closes_none u) none (begins comma u) last at field (ending_of at field u)) more

    module _ (none last : Bool) (x : is_empty current ≡ none) (y : eqb field (length ws) ≡ last) where
      closes_at_end : Closes none last []
      unfolding closing_by
      closes_at_end more q = by_tests none last x (few_by last y)
        where
          by_tests : (none last : Bool) → is_empty current ≡ none → ltb field (length ws) ≡ not last
              → told (faults_from ws t []) ≡ shape_by (closing_by false none false last at field (flawed_at LineEnd at field)) more
          by_tests true last x z = tells_no_digit ws t [] (no_digit_by [] ∙ rw x) ∙ ap Some (fault_here NoDigit)
          by_tests false true x z =
              tells_end ws t [] (no_digit_by [] ∙ rw x) (too_many_by []) (stray_by []) (count_by [] ∙ rw z) (end_by []) ∙ ap Some (fault_here LineEnd)
          by_tests false false x z =
              tells_count ws t [] (no_digit_by [] ∙ rw x) (too_many_by []) (stray_by []) (count_by [] ∙ rw z) ∙ ap Some (fault_here FieldCount)

      closes_by_comma : (u : List ℕ) → Closes none last (comma ∷ u)
      unfolding closing_by
      closes_by_comma u more q = by_tests none last x (many_by last y) y
        where
          by_tests : (none last : Bool) → is_empty current ≡ none → leb (length ws) field ≡ last → eqb field (length ws) ≡ last
              → told (faults_from ws t (comma ∷ u)) ≡ shape_by (closing_by false none true last at field (ending_of at field (comma ∷ u))) more
          by_tests true last x z w = tells_no_digit ws t (comma ∷ u) (no_digit_by (comma ∷ u) ∙ rw x) ∙ ap Some (fault_here NoDigit)
          by_tests false true x z w =
              tells_count ws t (comma ∷ u) (no_digit_by (comma ∷ u) ∙ rw x) (too_many_by (comma ∷ u)) (stray_by (comma ∷ u)) (count_by (comma ∷ u) ∙ rw z) ∙ ap Some (fault_here FieldCount)
          by_tests false false x z w =
              told_later ws t comma u (none_here ws t (comma ∷ u) (no_digit_by (comma ∷ u) ∙ rw x) (too_many_by (comma ∷ u)) (stray_by (comma ∷ u)) (count_by (comma ∷ u) ∙ rw z) (end_by (comma ∷ u) ∙ rw w))
              ∙ q refl

      closes_by_cr : (u : List ℕ) → Closes none last (cr ∷ u)
      unfolding closing_by
      closes_by_cr u more q = by_tests none last x (few_by last y)
        where
          by_tests : (none last : Bool) → is_empty current ≡ none → ltb field (length ws) ≡ not last
              → told (faults_from ws t (cr ∷ u)) ≡ shape_by (closing_by false none false last at field (ending_of at field (cr ∷ u))) more
          by_tests true last x z = tells_no_digit ws t (cr ∷ u) (no_digit_by (cr ∷ u) ∙ rw x) ∙ ap Some (fault_here NoDigit)
          by_tests false true x z =
              told_later ws t cr u (none_here ws t (cr ∷ u) (no_digit_by (cr ∷ u) ∙ rw x) (too_many_by (cr ∷ u)) (stray_by (cr ∷ u)) (count_by (cr ∷ u) ∙ rw z) (end_by (cr ∷ u) ∙ no_cr_due (eqb field (length ws)) (not (is_empty current))))
              ∙ after_cr u more
          by_tests false false x z =
              tells_count ws t (cr ∷ u) (no_digit_by (cr ∷ u) ∙ rw x) (too_many_by (cr ∷ u)) (stray_by (cr ∷ u)) (count_by (cr ∷ u) ∙ rw z) ∙ ap Some (fault_here FieldCount)

      closes_by_other : (b : ℕ) (u : List ℕ) → is_digit b ≡ false → eqb b comma ≡ false → eqb b cr ≡ false → Closes none last (b ∷ u)
      unfolding closing_by
      closes_by_other b u e f g more q =
          tells_stray ws t (b ∷ u) (no_digit_by (b ∷ u) ∙ rw (f, g) (and-false (is_empty current))) (too_many_by (b ∷ u) ∙ rw e) (stray_by (b ∷ u) ∙ rw (e, f, g))
          ∙ ap Some (fault_here StrayByte) ∙ rw (f, g)

      closes_by : (u : List ℕ) → begins_digit u ≡ false → Closes none last u
      closes_by [] e = closes_at_end
      closes_by (b ∷ u) e = by_bytes (eqb b comma) (eqb b cr) refl refl
        where
          by_bytes : (p q : Bool) → eqb b comma ≡ p → eqb b cr ≡ q → Closes none last (b ∷ u)
          by_bytes true q f g = subst (λ (a : ℕ). Closes none last (a ∷ u)) (sym (eqb-true b comma f)) (closes_by_comma u)
          by_bytes false true f g = subst (λ (a : ℕ). Closes none last (a ∷ u)) (sym (eqb-true b cr g)) (closes_by_cr u)
          by_bytes false false f g = closes_by_other b u e f g

    -- WHERE NO DIGIT STANDS, what the reader finds there is what the faults tell
    pub field_closes : (u : List ℕ) → begins_digit u ≡ false → Closes (eqb (length current) 0) (eqb field (length ws)) u
    field_closes = closes_by (eqb (length current) 0) (eqb field (length ws)) (empty_by current) refl

-- ---- a line of no bytes

pub empty_line : (ws : List ℕ) → 1 ≤ length ws → shape_of ws [] ≡ Some (record { flaw = NoDigit; offset = 0; field = 1 })
unfolding shape_of closing_by
empty_line ws h = field_closes ws [] [] [] passed_nothing h [] refl None (λ e. absurd (false≢true e))
