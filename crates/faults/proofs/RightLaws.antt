-- A line has a fault exactly where its shape is not right: the base's definition and the list of faults agree.
-- Assumes nothing.
use mathlib.Core.Path.{◌≡◌, refl, sym, ap, subst, ◌∙◌}
use mathlib.Core.Bool.{Bool, true, false, cond, not, ◌&&◌, and-false, false≢true}
use mathlib.Core.List.{List, [], ◌∷◌, ◌++◌}
use Prim.Native.Nat.{ℕ, zero, suc, ◌+◌, ◌-◌, ◌≤◌, ◌<◌}
use native.Mathlib.Numerals.{add-one}
use native.Mathlib.Omega.{arith}
use lib.Dec.{leb, ltb, eqb, lit<}
use lib.ListN.{length, get_or, drop, length-append, drop_of_length-le}
use lib.Seq.{drop-cons}
use borrow.Author.Tests.{ne_eqb, eqb-true, eqb-false, le-leb, lt-leb, ltb-true, ltb-false}
use Rattle.std.specs.Prelude.{Option, Some, None, Ok}
use Rattle.faults.specs.declared.fault.Flaw.TheVariants.{LineEnd}
use Rattle.faults.specs.declared.fault.Fault.{Fault}
use Rattle.faults.specs.declared.reader.Closing.TheVariants.{Last}
use Rattle.text.specs.Number.{is_digit, leading}
use Rattle.text.specs.Line.{comma, cr, lf, is_lf, right_shape}
use Rattle.faults.specs.Fault.{faults_from, told, shape_of, is_right}
use Rattle.faults.specs.device.Closing.{flawed_at, ending_of, closing_by, shape_by}
use Rattle.checks.proofs.Cases.{not_both}
use Rattle.text.proofs.DigitLaws.{digit_is_not}
use Rattle.text.proofs.ScanLaws.{field_closer, scans, closer_at_law}
use Rattle.text.proofs.ShapeLaws.{scan_right}
use Rattle.faults.proofs.PassedLaws.{Passed, passed_nothing, passed_digit, passed_comma}
use Rattle.faults.proofs.FaultLaws.{digit_goes_on, digit_too_many_law, field_closes}

-- the scan of a line whose first field, of width w, has n digits already
unfoldable scans_on : ℕ → ℕ → List ℕ → List ℕ → Bool
scans_on n w ws s =
    leb 1 (n + length (leading (w - n) s))
    && (eqb (get_or s (length (leading (w - n) s)) 0) (field_closer ws) && scans ws (drop (length (leading (w - n) s) + 1) s))

scans_first : (w : ℕ) (ws s : List ℕ) → scans_on 0 w ws s ≡ scans (w ∷ ws) s
unfolding scans_on scans
scans_first w ws s =
    let z : 0 + length (leading w s) ≡ length (leading w s) = omega arith in
    let y : w - 0 ≡ w = omega arith in
    rw (y, z)

-- a byte that is neither comma nor CR closes nothing
closes_nothing : (ws : List ℕ) (b : ℕ) → eqb b comma ≡ false → eqb b cr ≡ false → eqb b (field_closer ws) ≡ false
unfolding field_closer
closes_nothing [] b e f = f
closes_nothing (w ∷ ws) b e f = e

module _ (n w : ℕ) (ws : List ℕ) where
  scans_digit : (d : ℕ) (s : List ℕ) → is_digit d ≡ true → n < w → scans_on n w ws (d ∷ s) ≡ scans_on (n + 1) w ws s
  unfolding scans_on leading
  scans_digit d s e h =
      let more : w - n ≡ suc (w - (n + 1)) = omega arith in
      let count : n + suc (length (leading (w - (n + 1)) s)) ≡ n + 1 + length (leading (w - (n + 1)) s) = omega arith in
      let next : suc (length (leading (w - (n + 1)) s)) + 1 ≡ suc (length (leading (w - (n + 1)) s) + 1) = omega arith in
      rw (more, e, count, next)

  -- a byte that is no digit, or a digit that is too many
  abbrev stops : ℕ → Type 0
  stops b = (s : List ℕ) → leading (w - n) (b ∷ s) ≡ []

  digit_stops : (b : ℕ) → w ≤ n → stops b
  unfolding leading
  digit_stops b h s = let z : w - n ≡ 0 = omega arith in rw z

  other_stops : (b : ℕ) → is_digit b ≡ false → stops b
  unfolding leading
  other_stops b e s = by_room (w - n)
    where
      by_room : (m : ℕ) → leading m (b ∷ s) ≡ []
      by_room zero = refl
      by_room (suc m) = rw e

  scans_stop : (b : ℕ) (s : List ℕ) → stops b → scans_on n w ws (b ∷ s) ≡ leb 1 n && (eqb b (field_closer ws) && scans ws s)
  unfolding scans_on
  scans_stop b s h = let z : n + 0 ≡ n = omega arith in rw (h s, z)

  scans_other : (b : ℕ) (s : List ℕ) → stops b → eqb b (field_closer ws) ≡ false → scans_on n w ws (b ∷ s) ≡ false
  scans_other b s h e = scans_stop b s h ∙ rw e (and-false (leb 1 n))

scans_end : (n w : ℕ) (ws : List ℕ) → scans_on n w ws [] ≡ false
unfolding scans_on leading
scans_end n w ws = by_room (w - n)
  where
    by_room : (m : ℕ) → leb 1 (n + length (leading m [])) && (eqb (get_or [] (length (leading m [])) 0) (field_closer ws) && scans ws (drop (length (leading m []) + 1) [])) ≡ false
    by_room zero = rw (closes_nothing ws 0 refl refl) (and-false (leb 1 (n + 0)))
    by_room (suc m) = rw (closes_nothing ws 0 refl refl) (and-false (leb 1 (n + 0)))

lf_alone : (at field : ℕ) (u : List ℕ) (more : Option Fault) → is_right (shape_by (ending_of at field (cr ∷ u)) more) ≡ is_lf u
unfolding is_lf
lf_alone at field [] more = refl
lf_alone at field (a ∷ []) more = by_lf (eqb a lf)
  where
    by_lf : (e : Bool) → is_right (shape_by (cond e (Ok Last) (flawed_at LineEnd (at + 1) field)) more) ≡ e
    by_lf true = refl
    by_lf false = refl
lf_alone at field (a ∷ b ∷ u) more = rw (ne_eqb (suc (suc (length u))) 1 (λ e. omega arith)) (by_lf (eqb a lf))
  where
    by_lf : (e : Bool) → is_right (shape_by (cond e (flawed_at LineEnd (at + 2) field) (flawed_at LineEnd (at + 1) field)) more) ≡ false
    by_lf true = refl
    by_lf false = refl

-- ---- from the middle of a field on

module _ (ws : List ℕ) where
  abbrev width_at : List (List ℕ) → ℕ
  width_at done = get_or ws (length done) 0

  abbrev due : List (List ℕ) → List ℕ
  due done = drop (length done + 1) ws

  abbrev Agrees : List ℕ → List (List ℕ) → List ℕ → List ℕ → Type 0
  Agrees t done current u = is_right (told (faults_from ws t u)) ≡ scans_on (length current) (width_at done) (due done) u

  module _ (t : List ℕ) (done : List (List ℕ)) (current : List ℕ) (p : Passed t done current) (h : length done < length ws) where
    abbrev last : Bool
    last = eqb (length done + 1) (length ws)

    abbrev none : Bool
    none = eqb (length current) 0

    some_by : (b : Bool) → none ≡ b → leb 1 (length current) ≡ not b
    some_by true e = lt-leb 1 (length current) (omega (arith, eqb-true (length current) 0 e))
    some_by false e = le-leb 1 (length current) (omega (arith, eqb-false (length current) 0 e))

    closer_by : (b : Bool) → last ≡ b → field_closer (due done) ≡ cond b cr comma
    closer_by b e = closer_at_law ws (length done) h ∙ rw e

    due_none : last ≡ true → due done ≡ []
    due_none e = drop_of_length-le ws {i = length done + 1} (omega (arith, eqb-true (length done + 1) (length ws) e))

    -- no digit stands here, and no byte
    agrees_at_end : Agrees t done current []
    unfolding closing_by
    agrees_at_end =
        ap is_right (field_closes ws t done current p h [] refl None (λ e. absurd (false≢true e))) ∙ by_tests none last ∙ sym (scans_end (length current) (width_at done) (due done))
      where
        by_tests : (none last : Bool) → is_right (shape_by (closing_by false none false last (length t) (length done + 1) (flawed_at LineEnd (length t) (length done + 1))) None) ≡ false
        by_tests true last = refl
        by_tests false true = refl
        by_tests false false = refl

    agrees_at_digit : (d : ℕ) (u : List ℕ) → is_digit d ≡ true → width_at done ≤ length current → Agrees t done current (d ∷ u)
    agrees_at_digit d u e l =
        ap is_right (digit_too_many_law ws t done current p d u e l)
        ∙ sym (scans_other (length current) (width_at done) (due done) d u (digit_stops (length current) (width_at done) (due done) d l) (closes_nothing (due done) d (digit_is_not comma d (lit< tt) e) (digit_is_not cr d (lit< tt) e)))

    scans_here : (b : ℕ) (u : List ℕ) → is_digit b ≡ false → scans_on (length current) (width_at done) (due done) (b ∷ u) ≡ leb 1 (length current) && (eqb b (field_closer (due done)) && scans (due done) u)
    scans_here b u e = scans_stop (length current) (width_at done) (due done) b u (other_stops (length current) (width_at done) (due done) b e)

    agrees_at_other : (b : ℕ) (u : List ℕ) → is_digit b ≡ false → eqb b comma ≡ false → eqb b cr ≡ false → Agrees t done current (b ∷ u)
    unfolding closing_by
    agrees_at_other b u e f g =
        ap is_right (rw (f, g) at (field_closes ws t done current p h (b ∷ u) e None (λ q. absurd (not_both (eqb b comma) q f))))
        ∙ sym (scans_here b u e ∙ rw (closes_nothing (due done) b f g) (and-false (leb 1 (length current))))

    agrees_at_cr : (u : List ℕ) → Agrees t done current (cr ∷ u)
    unfolding closing_by scans
    agrees_at_cr u =
        ap is_right (field_closes ws t done current p h (cr ∷ u) refl None (λ e. absurd (false≢true e)))
        ∙ by_tests none last (some_by none refl) refl ∙ sym (scans_here cr u refl)
      where
        by_tests : (none b : Bool) → leb 1 (length current) ≡ not none → last ≡ b
            → is_right (shape_by (closing_by false none false b (length t) (length done + 1) (ending_of (length t) (length done + 1) (cr ∷ u))) None)
            ≡ leb 1 (length current) && (eqb cr (field_closer (due done)) && scans (due done) u)
        by_tests true b x y = rw x
        by_tests false true x y = lf_alone (length t) (length done + 1) u None ∙ rw (x, closer_by true y, due_none y)
        by_tests false false x y = rw (x, closer_by false y)

    -- a comma: the next field, from its beginning on
    agrees_at_comma : (u : List ℕ) → (length done + 1 < length ws → Agrees (t ++ (comma ∷ [])) (done ++ (current ∷ [])) [] u) → Agrees t done current (comma ∷ u)
    unfolding closing_by
    agrees_at_comma u more =
        ap is_right (field_closes ws t done current p h (comma ∷ u) refl (told (faults_from ws (t ++ (comma ∷ [])) u)) (λ e. refl))
        ∙ by_tests none last (some_by none refl) refl ∙ sym (scans_here comma u refl)
      where
        by_tests : (none b : Bool) → leb 1 (length current) ≡ not none → last ≡ b
            → is_right (shape_by (closing_by false none true b (length t) (length done + 1) (ending_of (length t) (length done + 1) (comma ∷ u))) (told (faults_from ws (t ++ (comma ∷ [])) u)))
            ≡ leb 1 (length current) && (eqb comma (field_closer (due done)) && scans (due done) u)
        by_tests true b x y = rw x
        by_tests false true x y = rw (x, closer_by true y)
        by_tests false false x y =
            let longer : length (done ++ (current ∷ [])) ≡ length done + 1 = length-append done (current ∷ []) in
            let there : length done + 1 < length ws = omega (arith, h, eqb-false (length done + 1) (length ws) y) in
            more there ∙ rw (longer, add-one (length done + 1), x, closer_by false y) (scans_first (get_or ws (length done + 1) 0) (drop (suc (length done + 1)) ws) u ∙ ap (λ (vs : List ℕ). scans vs u) (sym (drop-cons ws (length done + 1) 0 there)))

    -- a digit that fits
    agrees_digit_on : (d : ℕ) (u : List ℕ) → is_digit d ≡ true → length current < width_at done → Agrees (t ++ (d ∷ [])) done (current ++ (d ∷ [])) u → Agrees t done current (d ∷ u)
    agrees_digit_on d u e l more =
        ap is_right (digit_goes_on ws t done current p d u e l) ∙ more ∙ rw (length-append current (d ∷ [])) (sym (scans_digit (length current) (width_at done) (due done) d u e l))

  agrees : (u t : List ℕ) (done : List (List ℕ)) (current : List ℕ) → Passed t done current → length done < length ws → Agrees t done current u
  agrees [] t done current p h = agrees_at_end t done current p h
  agrees (b ∷ u) t done current p h = by_byte (is_digit b) (ltb (length current) (width_at done)) (eqb b comma) (eqb b cr) refl refl refl refl (agrees u)
    where
      by_byte : (digit fits is_comma is_cr : Bool) → is_digit b ≡ digit → ltb (length current) (width_at done) ≡ fits → eqb b comma ≡ is_comma → eqb b cr ≡ is_cr
          → ((t : List ℕ) (done : List (List ℕ)) (current : List ℕ) → Passed t done current → length done < length ws → Agrees t done current u)
          → Agrees t done current (b ∷ u)
      by_byte true true is_comma is_cr e f g i more =
          agrees_digit_on t done current p h b u e (ltb-true (length current) (width_at done) f) (more (t ++ (b ∷ [])) done (current ++ (b ∷ [])) (passed_digit p b e) h)
      by_byte true false is_comma is_cr e f g i more = agrees_at_digit t done current p h b u e (ltb-false (length current) (width_at done) f)
      by_byte false fits true is_cr e f g i more =
          subst (λ (a : ℕ). Agrees t done current (a ∷ u)) (sym (eqb-true b comma g))
          (agrees_at_comma t done current p h u (λ l. more (t ++ (comma ∷ [])) (done ++ (current ∷ [])) [] (passed_comma p) (rw (length-append done (current ∷ [])) l)))
      by_byte false fits false true e f g i more = subst (λ (a : ℕ). Agrees t done current (a ∷ u)) (sym (eqb-true b cr i)) (agrees_at_cr t done current p h u)
      by_byte false fits false false e f g i more = agrees_at_other t done current p h b u e g i

-- A LINE HAS A FAULT EXACTLY WHERE ITS SHAPE IS NOT RIGHT
pub faultless_right : (ws s : List ℕ) → 1 ≤ length ws → is_right (shape_of ws s) ≡ right_shape ws s
unfolding shape_of
faultless_right [] s h = absurd (omega arith)
faultless_right (w ∷ ws) s h =
    agrees (w ∷ ws) s [] [] [] passed_nothing h ∙ scans_first w ws s ∙ scan_right (w ∷ ws) s h

right_is : (x : Option Fault) → is_right x ≡ true → x ≡ None
right_is None e = refl
right_is (Some f) e = absurd (false≢true e)

module _ (ws s : List ℕ) (h : 1 ≤ length ws) where
  pub right_faultless : right_shape ws s ≡ true → shape_of ws s ≡ None
  right_faultless e = right_is (shape_of ws s) (faultless_right ws s h ∙ e)

  pub faultless_shape : shape_of ws s ≡ None → right_shape ws s ≡ true
  faultless_shape e = sym (faultless_right ws s h) ∙ ap is_right e

-- a line that has a fault
pub record Faulty (ws s : List ℕ) : Type 0 where
  pub fault : Fault
  pub shape : shape_of ws s ≡ Some fault

pub wrong_faulty : (ws s : List ℕ) → 1 ≤ length ws → right_shape ws s ≡ false → Faulty ws s
wrong_faulty ws s h e = by_shape (shape_of ws s) refl
  where
    by_shape : (x : Option Fault) → shape_of ws s ≡ x → Faulty ws s
    by_shape None q = absurd (not_both (right_shape ws s) (faultless_shape ws s h q) e)
    by_shape (Some f) q = record { fault = f; shape = q }
