-- Where the fault that is told stands: it is the first of those at the lowest offset; its offset is within the line, and not past
-- the longest right one; and a line that goes on has the fault of its front.
-- Assumes nothing.
use mathlib.Core.Path.{◌≡◌, refl, sym, ap, ◌∙◌}
use mathlib.Core.Logic.{◌⊎◌, inl, inr}
use mathlib.Core.Bool.{Bool, true, false, cond, false≢true}
use mathlib.Core.List.{List, [], ◌∷◌, ◌++◌}
use Prim.Native.Nat.{ℕ, ◌+◌, ◌-◌, ◌≤◌, ◌<◌}
use native.Mathlib.Numerals.{add-one}
use native.Mathlib.Omega.{arith}
use lib.Dec.{ltb, eqb}
use lib.ListN.{length, get_or, drop, length-append}
use lib.Seq.{drop-cons}
use borrow.Author.Tests.{ltb-true, ltb-false, eqb-false}
use Rattle.std.specs.Prelude.{Option, Some, None, Result, Ok}
use Rattle.faults.specs.declared.fault.Flaw.TheVariants.{LineEnd}
use Rattle.faults.specs.declared.fault.Fault.{Fault}
use Rattle.faults.specs.declared.reader.Closing.{Closing}
use Rattle.faults.specs.declared.reader.Closing.TheVariants.{Last}
use Rattle.text.specs.Number.{is_digit}
use Rattle.text.specs.Line.{comma, lf}
use Rattle.faults.specs.Fault.{is_empty, begins, begins_digit, in_order, faults_here, faults_from, lowest_of, told, shape_of, is_right}
use Rattle.faults.specs.device.Closing.{flawed_at, ending_of, closes_none, closing_by, shape_by}
use Rattle.checks.proofs.Cases.{by_cond}
use Rattle.text.proofs.LackLaws.{Each}
use Rattle.text.proofs.ScanLaws.{total}
use Rattle.faults.proofs.PassedLaws.{Passed, passed_nothing, passed_digit, passed_comma}
use Rattle.text.proofs.ShapeLaws.{shape_most}
use Rattle.faults.proofs.RightLaws.{faultless_shape}
use Rattle.faults.proofs.FaultLaws.{From, At, from_here, here_at, told_here, told_later, digit_goes_on, digit_too_many_law, field_closes}

-- ---- the first of those at the lowest offset

-- in front, and none after it is lower; or one that is higher in front, and then the first
abbrev pub FirstLowest : List Fault → Fault → Type 0
FirstLowest [] f = ⊥
FirstLowest (g ∷ gs) f = ((g ≡ f) × From f.offset gs) ⊎ ((f.offset < g.offset) × FirstLowest gs f)

lowest_low : (f : Fault) (fs : List Fault) → (lowest_of f fs).offset ≤ f.offset
unfolding lowest_of
lowest_low f [] = omega arith
lowest_low f (g ∷ gs) =
    by_cond (λ (x : Fault). (lowest_of x gs).offset ≤ f.offset) (ltb g.offset f.offset) g f
    (λ e. omega (arith, ltb-true g.offset f.offset e, lowest_low g gs)) (λ e. lowest_low f gs)

-- one that is not lower may stand between
between : (f g x : Fault) (gs : List Fault) → f.offset ≤ g.offset → FirstLowest (f ∷ gs) x → FirstLowest (f ∷ g ∷ gs) x
between f g x gs l (inl (e, more)) = inl (e, (rw (sym e) l, more))
between f g x gs l (inr (low, more)) = inr (low, inr (omega (arith, l, low), more))

first_lowest : (f : Fault) (fs : List Fault) → FirstLowest (f ∷ fs) (lowest_of f fs)
unfolding lowest_of
first_lowest f [] = inl (refl, tt)
first_lowest f (g ∷ gs) =
    by_cond (λ (x : Fault). FirstLowest (f ∷ g ∷ gs) (lowest_of x gs)) (ltb g.offset f.offset) g f
    (λ e. inr (omega (arith, ltb-true g.offset f.offset e, lowest_low g gs), first_lowest g gs))
    (λ e. between f g (lowest_of f gs) gs (ltb-false g.offset f.offset e) (first_lowest f gs))

-- THE FAULT TOLD IS THE FIRST OF THOSE AT THE LOWEST OFFSET
pub told_lowest : (fs : List Fault) (f : Fault) → told fs ≡ Some f → FirstLowest fs f
unfolding told
told_lowest [] f e = absurd (false≢true (sym (ap is_right e)))
told_lowest (g ∷ gs) f e = let same : lowest_of g gs ≡ f = cc in rw (← same) (first_lowest g gs)

-- and is one of them
lowest_is_one : (P : Fault → Type 0) (fs : List Fault) (f : Fault) → Each P fs → FirstLowest fs f → P f
lowest_is_one P [] f h l = absurd l
lowest_is_one P (g ∷ gs) f (here, more) (inl (e, others)) = rw (sym e) here
lowest_is_one P (g ∷ gs) f (here, more) (inr (low, l)) = lowest_is_one P gs f more l

-- ---- a line that goes on has the fault of its front

told_from_law : (n : ℕ) (fs : List Fault) (f : Fault) → From n fs → told fs ≡ Some f → n ≤ f.offset
told_from_law n fs f h e = lowest_is_one (λ (g : Fault). n ≤ g.offset) fs f h (told_lowest fs f e)

module _ (ws more : List ℕ) (f : Fault) where
  pub front_tells : (before after : List ℕ) → told (faults_from ws before after) ≡ Some f → f.offset < length before + length after
      → told (faults_from ws before (after ++ more)) ≡ Some f
  front_tells before [] e h = absurd (omega (arith, h, told_from_law (length before) (faults_from ws before []) f (from_here ws before []) e))
  front_tells before (b ∷ after) e h = by_here (faults_here ws before (b ∷ after)) refl (front_tells (before ++ (b ∷ [])) after)
    where
      by_here : (hs : List Fault) → faults_here ws before (b ∷ after) ≡ hs
          → (told (faults_from ws (before ++ (b ∷ [])) after) ≡ Some f → f.offset < length (before ++ (b ∷ [])) + length after
          → told (faults_from ws (before ++ (b ∷ [])) (after ++ more)) ≡ Some f)
          → told (faults_from ws before (b ∷ (after ++ more))) ≡ Some f
      by_here [] q next =
          told_later ws before b (after ++ more) q
          ∙ next (sym (told_later ws before b after q) ∙ e) (rw length-append (omega (arith, h)))
      by_here (g ∷ gs) q next =
          told_here ws before (b ∷ (after ++ more)) g gs q ∙ sym (told_here ws before (b ∷ after) g gs q) ∙ e

pub front_decides : (ws s more : List ℕ) (f : Fault) → shape_of ws s ≡ Some f → f.offset < length s → shape_of ws (s ++ more) ≡ Some f
unfolding shape_of
front_decides ws s more f e h = front_tells ws more f [] s e (omega (arith, h))

-- ---- the offset is within the line

at_upto : (n m : ℕ) (fs : List Fault) → m ≤ n → At m fs → Each (λ (f : Fault). f.offset ≤ n) fs
at_upto n m [] l h = tt
at_upto n m (f ∷ fs) l (here, more) = (omega (arith, l, here), at_upto n m fs l more)

upto_append : (n : ℕ) (fs gs : List Fault) → Each (λ (f : Fault). f.offset ≤ n) fs → Each (λ (f : Fault). f.offset ≤ n) gs → Each (λ (f : Fault). f.offset ≤ n) (fs ++ gs)
upto_append n [] gs h k = k
upto_append n (f ∷ fs) gs (here, more) k = (here, upto_append n fs gs more k)

module _ (ws : List ℕ) where
  upto : (n : ℕ) (before after : List ℕ) → length before + length after ≤ n → Each (λ (f : Fault). f.offset ≤ n) (faults_from ws before after)
  unfolding faults_from
  upto n before [] h = at_upto n (length before) (faults_here ws before []) (omega (arith, h)) (here_at ws in_order before [])
  upto n before (b ∷ after) h =
      upto_append n (faults_here ws before (b ∷ after)) (faults_from ws (before ++ (b ∷ [])) after)
      (at_upto n (length before) (faults_here ws before (b ∷ after)) (omega (arith, h)) (here_at ws in_order before (b ∷ after)))
      (upto n (before ++ (b ∷ [])) after (rw length-append (omega (arith, h))))

  pub offset_within : (s : List ℕ) (f : Fault) → shape_of ws s ≡ Some f → f.offset ≤ length s
  unfolding shape_of
  offset_within s f e = lowest_is_one (λ (g : Fault). g.offset ≤ length s) (faults_from ws [] s) f (upto (length s) [] s (omega arith)) (told_lowest (faults_from ws [] s) f e)

-- ---- and not past the longest right line

abbrev Near : ℕ → Option Fault → Type 0
Near n None = Unit {0}
Near n (Some f) = f.offset ≤ n

near_closing : (n at field : ℕ) (stray none is_comma last : Bool) (ending : Result Closing Fault) (more : Option Fault) → at ≤ n → Near n (shape_by ending more) → (is_comma ≡ true → last ≡ false → Near n more)
    → Near n (shape_by (closing_by stray none is_comma last at field ending) more)
unfolding closing_by
near_closing n at field true none is_comma last ending more l e m = l
near_closing n at field false true is_comma last ending more l e m = l
near_closing n at field false false true true ending more l e m = l
near_closing n at field false false true false ending more l e m = m refl refl
near_closing n at field false false false true ending more l e m = e
near_closing n at field false false false false ending more l e m = l

near_ending : (n at field : ℕ) (u : List ℕ) (more : Option Fault) → at + 2 ≤ n → Near n (shape_by (ending_of at field u) more)
near_ending n at field [] more l = omega arith
near_ending n at field (b ∷ u) more l = by_tests (begins lf u) (is_empty (drop 1 u))
  where
    by_tests : (x y : Bool) → Near n (shape_by (cond x (cond y (Ok Last) (flawed_at LineEnd (at + 2) field)) (flawed_at LineEnd (at + 1) field)) more)
    by_tests true true = tt
    by_tests true false = l
    by_tests false y = omega arith

module _ (ws : List ℕ) where
  -- how far the line may go on after the fields closed: the fields after the one that has begun, a comma before each, CR and LF
  abbrev ahead : List (List ℕ) → ℕ
  ahead done = total (drop (length done + 1) ws) + length (drop (length done + 1) ws) + 2

  -- one field further
  ahead_more : (done : List (List ℕ)) (current : List ℕ) → length done + 1 < length ws → ahead done ≡ get_or ws (length (done ++ (current ∷ []))) 0 + 1 + ahead (done ++ (current ∷ []))
  ahead_more done current h =
      let more : length (done ++ (current ∷ [])) ≡ length done + 1 = length-append done (current ∷ []) in
      rw (more, drop-cons ws (length done + 1) 0 h, add-one (length done + 1)) (omega arith)

  module _ (n : ℕ) where
    Bounded : List ℕ → Type 0
    Bounded u =
        (t : List ℕ) (done : List (List ℕ)) (current : List ℕ) → Passed t done current → length done < length ws → length current ≤ get_or ws (length done) 0
        → length t + (get_or ws (length done) 0 - length current) + ahead done ≤ n → Near n (told (faults_from ws t u))

    module _ (t : List ℕ) (done : List (List ℕ)) (current : List ℕ) (p : Passed t done current) (h : length done < length ws)
        (b : length t + (get_or ws (length done) 0 - length current) + ahead done ≤ n) where
      abbrev field : ℕ
      field = length done + 1

      near_close : (u : List ℕ) → begins_digit u ≡ false → (begins comma u ≡ true → Bounded (drop 1 u)) → Near n (told (faults_from ws t u))
      unfolding Bounded
      near_close u e next =
          rw (field_closes ws t done current p h u e rest (λ q. refl))
          (near_closing n (length t) field (closes_none u) (eqb (length current) 0) (begins comma u) (eqb field (length ws)) (ending_of (length t) field u) rest
          (omega (arith, b)) (near_ending n (length t) field u rest (omega (arith, b))) after)
        where
          rest : Option Fault
          rest = told (faults_from ws (t ++ (comma ∷ [])) (drop 1 u))

          after : begins comma u ≡ true → eqb field (length ws) ≡ false → Near n rest
          after c q =
              let there : field < length ws = omega (arith, h, eqb-false field (length ws) q) in
              next c (t ++ (comma ∷ [])) (done ++ (current ∷ [])) [] (passed_comma p) (rw (length-append done (current ∷ [])) there) (omega arith)
              (omega (arith, b, ahead_more done current there, length-append t (comma ∷ [])))

      near_digit : (d : ℕ) (u : List ℕ) → is_digit d ≡ true → Bounded u → Near n (told (faults_from ws t (d ∷ u)))
      unfolding Bounded
      near_digit d u e next = by_room (ltb (length current) (get_or ws (length done) 0)) refl
        where
          by_room : (r : Bool) → ltb (length current) (get_or ws (length done) 0) ≡ r → Near n (told (faults_from ws t (d ∷ u)))
          by_room true r =
              let room = ltb-true (length current) (get_or ws (length done) 0) r in
              let one = length-append current (d ∷ []) in
              rw (digit_goes_on ws t done current p d u e room)
              (next (t ++ (d ∷ [])) done (current ++ (d ∷ [])) (passed_digit p d e) h (omega (arith, room, one)) (omega (arith, b, room, one, length-append t (d ∷ []))))
          by_room false r = rw (digit_too_many_law ws t done current p d u e (ltb-false (length current) (get_or ws (length done) 0) r)) (omega (arith, b))

    near : (u : List ℕ) → Bounded u
    unfolding Bounded
    near [] t done current p h l b = near_close t done current p h b [] refl (λ c. absurd (false≢true c))
    near (a ∷ u) t done current p h l b = by_digit (is_digit a) refl (near u)
      where
        by_digit : (e : Bool) → is_digit a ≡ e → Bounded u → Near n (told (faults_from ws t (a ∷ u)))
        by_digit true e next = near_digit t done current p h b a u e next
        by_digit false e next = near_close t done current p h b (a ∷ u) e (λ c. next)

pub offset_near : (ws s : List ℕ) (f : Fault) → 1 ≤ length ws → shape_of ws s ≡ Some f → f.offset ≤ total ws + length ws + 1
unfolding shape_of Bounded
offset_near [] s f h e = absurd (omega arith)
offset_near (w ∷ ws) s f h e =
    let n : ℕ = total (w ∷ ws) + length (w ∷ ws) + 1 in
    let told_near : Near n (told (faults_from (w ∷ ws) [] s)) = near (w ∷ ws) n s [] [] [] passed_nothing h (omega arith) (omega arith) in
    rw e at told_near

-- A LINE LONGER THAN ANY RIGHT ONE HAS THE FAULT OF ITS FRONT, however it goes on
pub long_front_decides : (ws s more : List ℕ) → 1 ≤ length ws → total ws + length ws + 1 < length s → shape_of ws (s ++ more) ≡ shape_of ws s
long_front_decides ws s more h l = by_shape (shape_of ws s) refl
  where
    by_shape : (x : Option Fault) → shape_of ws s ≡ x → shape_of ws (s ++ more) ≡ x
    by_shape None e = absurd (omega (arith, l, shape_most ws s h (faultless_shape ws s h e)))
    by_shape (Some f) e = front_decides ws s more f e (omega (arith, l, offset_near ws s f h e))
