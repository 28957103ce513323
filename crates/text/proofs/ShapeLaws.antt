-- A line is of right shape exactly when it is put together from fields that fit, and exactly when the scan comes to its end.
-- Assumes nothing.
use mathlib.Core.Path.{◌≡◌, refl, sym, ap, ◌∙◌}
use mathlib.Core.Bool.{Bool, true, false, cond, ◌&&◌, ◌||◌, or-false, and-false}
use mathlib.Core.List.{List, [], ◌∷◌, ◌++◌, append_assoc}
use Prim.Native.Nat.{ℕ, zero, suc, ◌+◌, ◌-◌, ◌*◌, ◌^◌, ◌≤◌, ◌<◌}
use native.Mathlib.Numerals.{add-one}
use native.Mathlib.Nat.{pow-le-pow_right}
use native.Mathlib.Omega.{arith}
use lib.Dec.{leb, eqb, lit<}
use lib.ListN.{length, get_or, drop, length-append, length-drop}
use lib.Seq.{drop-cons, get_or-append_seam, drop-append-add, take-append_seam}
use borrow.Author.Tests.{leb-true, le-leb, eq-eqb, ne_eqb, eqb-true}
use Rattle.text.specs.Number.{is_digit, all_digits, leading, decimal}
use Rattle.text.specs.Line.{cr, lf, comma, is_lf, ends_cr_lf, body, cr_lf, into_first, fields_in, fits_in, right_shape, values_of, numbers_of, spelled, written}
use Rattle.checks.proofs.Cases.{by_cond, not_both, same_test}
use Rattle.checks.proofs.Tests.{both_true}
use Rattle.text.proofs.DigitLaws.{leading_length}
use Rattle.text.proofs.LackLaws.{lacks, first_lacks, rest_lacks, digits_lack, Each}
use Rattle.text.proofs.DecimalLaws.{leading_back, decimal_digits, decimal_some, decimal_short}
use Rattle.text.proofs.ScanLaws.{field_closer, scans, scanned, total, field_some, field_closed, field_rest, scan_least, scan_most, scan_lf, numbers_small}

-- ---- CR LF at the end

pub lf_only : (s : List ℕ) → is_lf s ≡ true → s ≡ lf ∷ []
unfolding is_lf
lf_only [] h = cc
lf_only (a ∷ []) h = rw (eqb-true a lf h)
lf_only (a ∷ b ∷ s) h = let e = eqb-true (suc (suc (length s))) 1 (both_true (eqb (suc (suc (length s))) 1) (eqb a lf) h).0 in absurd (omega arith)

pub ends_nothing : ends_cr_lf [] ≡ false
unfolding ends_cr_lf
ends_nothing = refl

-- the last two bytes tell
pub ends_two : (l : List ℕ) (a b : ℕ) → ends_cr_lf (l ++ (a ∷ b ∷ [])) ≡ eqb a cr && eqb b lf
unfolding ends_cr_lf is_lf
ends_two [] a b = rw (and-false (eqb b cr), or-false (eqb a cr && eqb b lf))
ends_two (c ∷ l) a b =
    let n : length (l ++ (a ∷ b ∷ [])) ≡ length l + 2 = length-append l (a ∷ b ∷ []) in
    rw (n, ne_eqb (length l + 2) 1 (λ e. omega arith), and-false (eqb c cr)) (ends_two l a b)

pub crlf_ends : (l : List ℕ) → ends_cr_lf (l ++ cr_lf) ≡ true
crlf_ends l = ends_two l cr lf

-- what stands before CR LF
pub body_crlf : (l : List ℕ) → body (l ++ cr_lf) ≡ l
body_crlf l =
    let n : length (l ++ cr_lf) - 2 ≡ length l = rw length-append (omega arith) in
    rw n (take-append_seam l cr_lf)

or_cases : {P : Type 0} (a b : Bool) → (a ≡ true → P) → (b ≡ true → P) → a || b ≡ true → P
or_cases true b f g h = f refl
or_cases false b f g h = g h

pub ends_long : (s : List ℕ) → ends_cr_lf s ≡ true → 2 ≤ length s
unfolding ends_cr_lf
ends_long [] h = absurd (not_both false h refl)
ends_long (a ∷ s) h =
    or_cases (eqb a cr && is_lf s) (ends_cr_lf s)
    (λ e. omega (arith, ap length (lf_only s (both_true (eqb a cr) (is_lf s) e).1)))
    (λ e. omega (arith, ends_long s e)) h

-- a line that ends with CR LF is its body and CR LF
pub body_ends : (s : List ℕ) → ends_cr_lf s ≡ true → s ≡ body s ++ cr_lf
unfolding ends_cr_lf
body_ends [] h = absurd (not_both false h refl)
body_ends (a ∷ s) h =
    or_cases (eqb a cr && is_lf s) (ends_cr_lf s)
    (λ e. rw (eqb-true a cr (both_true (eqb a cr) (is_lf s) e).0, lf_only s (both_true (eqb a cr) (is_lf s) e).1))
    (λ e.
    let k : suc (length s) - 2 ≡ suc (length s - 2) = omega (arith, ends_long s e) in
    rw k (ap (λ (t : List ℕ). a ∷ t) (body_ends s e))) h

-- ---- a line of right shape is put together from fields that fit

-- the fields one after the other, each with the byte that closes it
abbrev pub close_of : List (List ℕ) → ℕ
close_of [] = cr
close_of (g ∷ gs) = comma

unfoldable pub closing : List (List ℕ) → List ℕ
closing [] = lf ∷ []
closing (f ∷ fs) = f ++ close_of fs ∷ closing fs

pub closing_written : (f : List ℕ) (fs : List (List ℕ)) → closing (f ∷ fs) ≡ written (f ∷ fs)
unfolding closing spelled
closing_written f [] = refl
closing_written f (g ∷ gs) =
    ap (λ (t : List ℕ). f ++ comma ∷ t) (closing_written g gs) ∙ sym (append_assoc f (comma ∷ spelled (g ∷ gs)) cr_lf)

close_into : (b : ℕ) (fs : List (List ℕ)) → close_of (into_first b fs) ≡ comma
close_into b [] = refl
close_into b (f ∷ fs) = refl

-- a text has at least one field
close_fields : (s : List ℕ) → close_of (fields_in s) ≡ comma
unfolding fields_in
close_fields [] = refl
close_fields (b ∷ s) = by_cond (λ (fs : List (List ℕ)). close_of fs ≡ comma) (eqb b comma) ([] ∷ fields_in s) (into_first b (fields_in s)) (λ e. refl) (λ e. close_into b (fields_in s))

closing_into : (b : ℕ) (fs : List (List ℕ)) → close_of fs ≡ comma → closing (into_first b fs) ≡ b ∷ closing fs
unfolding closing
closing_into b [] h = absurd (omega arith)
closing_into b (f ∷ fs) h = refl

closing_fields : (s : List ℕ) → closing (fields_in s) ≡ s ++ cr_lf
unfolding closing fields_in
closing_fields [] = refl
closing_fields (b ∷ s) =
    by_cond (λ (fs : List (List ℕ)). closing fs ≡ b ∷ (s ++ cr_lf)) (eqb b comma) ([] ∷ fields_in s) (into_first b (fields_in s))
    (λ e. rw (close_fields s, closing_fields s, eqb-true b comma e))
    (λ e. closing_into b (fields_in s) (close_fields s) ∙ ap (λ (t : List ℕ). b ∷ t) (closing_fields s))

written_closing : (fs : List (List ℕ)) → close_of fs ≡ comma → closing fs ≡ written fs
written_closing [] h = absurd (omega arith)
written_closing (f ∷ fs) h = closing_written f fs

module _ (ws s : List ℕ) (h : right_shape ws s ≡ true) where
  pub right_ends : ends_cr_lf s ≡ true
  unfolding right_shape
  right_ends = (both_true (ends_cr_lf s) (fits_in ws (fields_in (body s))) h).0

  pub right_fits : fits_in ws (fields_in (body s)) ≡ true
  unfolding right_shape
  right_fits = (both_true (ends_cr_lf s) (fits_in ws (fields_in (body s))) h).1

  right_closing : s ≡ closing (fields_in (body s))
  right_closing = body_ends s right_ends ∙ sym (closing_fields (body s))

  pub right_written : s ≡ written (fields_in (body s))
  right_written = right_closing ∙ written_closing (fields_in (body s)) (close_fields (body s))

-- ---- what is put together from fields that fit is of right shape, and its numbers come back

pub fields_nil : fields_in [] ≡ [] ∷ []
unfolding fields_in
fields_nil = refl

pub fields_cons : (b : ℕ) (s : List ℕ) → fields_in (b ∷ s) ≡ cond (eqb b comma) ([] ∷ fields_in s) (into_first b (fields_in s))
unfolding fields_in
fields_cons b s = refl

fields_one : (f : List ℕ) → lacks comma f ≡ true → fields_in f ≡ f ∷ []
unfolding fields_in
fields_one [] h = refl
fields_one (b ∷ f) h = rw (first_lacks comma b f h, fields_one f (rest_lacks comma b f h))

fields_more : (f s : List ℕ) → lacks comma f ≡ true → fields_in (f ++ comma ∷ s) ≡ f ∷ fields_in s
unfolding fields_in
fields_more [] s h = refl
fields_more (b ∷ f) s h = rw (first_lacks comma b f h, fields_more f s (rest_lacks comma b f h))

-- at least one: no fields at all would come back as one empty field
pub fields_spelled : (fs : List (List ℕ)) → 1 ≤ length fs → Each (λ (f : List ℕ). lacks comma f ≡ true) fs → fields_in (spelled fs) ≡ fs
unfolding spelled
fields_spelled [] some h = absurd (omega arith)
fields_spelled (f ∷ []) some (here, others) = fields_one f here
fields_spelled (f ∷ g ∷ gs) some (here, others) =
    fields_more f (spelled (g ∷ gs)) here ∙ ap (λ (ks : List (List ℕ)). f ∷ ks) (fields_spelled (g ∷ gs) (omega arith) others)

module _ (w : ℕ) (ws f : List ℕ) (fs : List (List ℕ)) (h : fits_in (w ∷ ws) (f ∷ fs) ≡ true) where
  fit_digits : all_digits f ≡ true
  unfolding fits_in
  fit_digits = (both_true (all_digits f) _ h).0

  fit_some : 1 ≤ length f
  unfolding fits_in
  fit_some = leb-true 1 (length f) (both_true (leb 1 (length f)) _ (both_true (all_digits f) _ h).1).0

  fit_width : length f ≤ w
  unfolding fits_in
  fit_width = leb-true (length f) w (both_true (leb (length f) w) _ (both_true (leb 1 (length f)) _ (both_true (all_digits f) _ h).1).1).0

  fit_rest : fits_in ws fs ≡ true
  unfolding fits_in
  fit_rest = (both_true (leb (length f) w) _ (both_true (leb 1 (length f)) _ (both_true (all_digits f) _ h).1).1).1

fit_none : (f : List ℕ) (fs : List (List ℕ)) → fits_in [] (f ∷ fs) ≡ true → ⊥
unfolding fits_in
fit_none f fs h = not_both false h refl

fit_lacks : (w : ℕ) (ws : List ℕ) → fits_in (w ∷ ws) [] ≡ true → ⊥
unfolding fits_in
fit_lacks w ws h = not_both false h refl

-- fields that fit lack every byte that stands before the digits
pub fits_lack : (b : ℕ) → b < 48 → (ws : List ℕ) (fs : List (List ℕ)) → fits_in ws fs ≡ true → Each (λ (f : List ℕ). lacks b f ≡ true) fs
fits_lack b low ws [] h = tt
fits_lack b low [] (f ∷ fs) h = absurd (fit_none f fs h)
fits_lack b low (w ∷ ws) (f ∷ fs) h =
    (digits_lack b low f (fit_digits w ws f fs h), fits_lack b low ws fs (fit_rest w ws f fs h))

fit_one : (w : ℕ) (ws : List ℕ) (fs : List (List ℕ)) → fits_in (w ∷ ws) fs ≡ true → 1 ≤ length fs
fit_one w ws [] h = absurd (fit_lacks w ws h)
fit_one w ws (f ∷ fs) h = omega arith

module _ (w : ℕ) (ws : List ℕ) (fs : List (List ℕ)) (h : fits_in (w ∷ ws) fs ≡ true) where
  written_fields : fields_in (body (written fs)) ≡ fs
  written_fields = rw (body_crlf (spelled fs)) (fields_spelled fs (fit_one w ws fs h) (fits_lack comma (lit< tt) (w ∷ ws) fs h))

  pub written_right : right_shape (w ∷ ws) (written fs) ≡ true
  unfolding right_shape
  written_right = rw (crlf_ends (spelled fs), written_fields, h)

  pub written_numbers : numbers_of (written fs) ≡ values_of fs
  unfolding numbers_of
  written_numbers = rw written_fields

-- ---- the scan comes to the end of what is put together from fields that fit

close_none : (fs : List (List ℕ)) → is_digit (close_of fs) ≡ false
close_none [] = refl
close_none (f ∷ fs) = refl

closer_close : (ws : List ℕ) (fs : List (List ℕ)) → fits_in ws fs ≡ true → field_closer ws ≡ close_of fs
unfolding field_closer fits_in
closer_close [] [] h = refl
closer_close [] (f ∷ fs) h = absurd (fit_none f fs h)
closer_close (w ∷ ws) [] h = absurd (fit_lacks w ws h)
closer_close (w ∷ ws) (f ∷ fs) h = refl

field_back : (w : ℕ) (ws f : List ℕ) (fs : List (List ℕ)) → fits_in (w ∷ ws) (f ∷ fs) ≡ true → leading w (f ++ close_of fs ∷ closing fs) ≡ f
field_back w ws f fs h = leading_back w f (close_of fs) (closing fs) (fit_digits w ws f fs h) (close_none fs) (fit_width w ws f fs h)

lf_right : is_lf (lf ∷ []) ≡ true
unfolding is_lf
lf_right = refl

closing_scans : (ws : List ℕ) (fs : List (List ℕ)) → fits_in ws fs ≡ true → scans ws (closing fs) ≡ true
unfolding scans closing
closing_scans [] [] h = lf_right
closing_scans [] (f ∷ fs) h = absurd (fit_none f fs h)
closing_scans (w ∷ ws) [] h = absurd (fit_lacks w ws h)
closing_scans (w ∷ ws) (f ∷ fs) h =
    rw (
      field_back w ws f fs h,
      le-leb 1 (length f) (fit_some w ws f fs h),
      get_or-append_seam f (close_of fs) (closing fs) 0,
      eq-eqb (close_of fs) (field_closer ws) (sym (closer_close ws fs (fit_rest w ws f fs h))),
      drop-append-add f (close_of fs ∷ closing fs) 1,
    )
    (closing_scans ws fs (fit_rest w ws f fs h))

closing_scanned : (ws : List ℕ) (fs : List (List ℕ)) → fits_in ws fs ≡ true → scanned ws (closing fs) ≡ values_of fs
unfolding scanned closing
closing_scanned [] [] h = refl
closing_scanned [] (f ∷ fs) h = absurd (fit_none f fs h)
closing_scanned (w ∷ ws) [] h = absurd (fit_lacks w ws h)
closing_scanned (w ∷ ws) (f ∷ fs) h =
    rw (field_back w ws f fs h, drop-append-add f (close_of fs ∷ closing fs) 1, closing_scanned ws fs (fit_rest w ws f fs h))

-- ---- where the scan comes to the end, the line is put together from fields that fit

-- the fields that the scan finds
unfoldable found : List ℕ → List ℕ → List (List ℕ)
found [] s = []
found (w ∷ ws) s = leading w s ∷ found ws (drop (length (leading w s) + 1) s)

pub lead_split : (w : ℕ) (s : List ℕ) → leading w s ++ drop (length (leading w s)) s ≡ s
unfolding leading
lead_split zero s = refl
lead_split (suc w) [] = refl
lead_split (suc w) (b ∷ s) =
    by_cond (λ (l : List ℕ). l ++ drop (length l) (b ∷ s) ≡ b ∷ s) (is_digit b) (b ∷ leading w s) [] (λ e. ap (λ (t : List ℕ). b ∷ t) (lead_split w s)) (λ e. refl)

pub lead_digits : (w : ℕ) (s : List ℕ) → all_digits (leading w s) ≡ true
unfolding leading all_digits
lead_digits zero s = refl
lead_digits (suc w) [] = refl
lead_digits (suc w) (b ∷ s) =
    by_cond (λ (l : List ℕ). all_digits l ≡ true) (is_digit b) (b ∷ leading w s) [] (λ e. rw (e, lead_digits w s)) (λ e. refl)

closer_found : (ws s : List ℕ) → field_closer ws ≡ close_of (found ws s)
unfolding field_closer found
closer_found [] s = refl
closer_found (w ∷ ws) s = refl

scan_fits : (ws s : List ℕ) → scans ws s ≡ true → fits_in ws (found ws s) ≡ true
unfolding fits_in found
scan_fits [] s h = refl
scan_fits (w ∷ ws) s h =
    rw (lead_digits w s, le-leb 1 (length (leading w s)) (field_some w ws s h), le-leb (length (leading w s)) w (leading_length w s))
    (scan_fits ws _ (field_rest w ws s h))

scan_closing : (ws s : List ℕ) → scans ws s ≡ true → s ≡ closing (found ws s)
unfolding closing found
scan_closing [] s h = lf_only s (scan_lf s h)
scan_closing (w ∷ ws) s h =
    let r = field_rest w ws s h in
    let m : length (leading w s) < length s = omega (arith, scan_least ws _ r, length-drop (length (leading w s) + 1) s) in
    let i : drop (suc (length (leading w s))) s ≡ closing (found ws (drop (length (leading w s) + 1) s)) = rw (← add-one (length (leading w s))) (scan_closing ws (drop (length (leading w s) + 1) s) r) in
    let c : get_or s (length (leading w s)) 0 ≡ close_of (found ws (drop (length (leading w s) + 1) s)) = field_closed w ws s h ∙ closer_found ws (drop (length (leading w s) + 1) s) in
    sym (lead_split w s) ∙ ap (λ (t : List ℕ). leading w s ++ t) (drop-cons s (length (leading w s)) 0 m ∙ cc)

found_some : (w : ℕ) (ws s : List ℕ) → close_of (found (w ∷ ws) s) ≡ comma
unfolding found
found_some w ws s = refl

-- ---- THE SCAN COMES TO THE END OF EXACTLY THE LINES OF RIGHT SHAPE, and finds their numbers

scan_right_some : (w : ℕ) (ws s : List ℕ) → scans (w ∷ ws) s ≡ right_shape (w ∷ ws) s
scan_right_some w ws s =
    same_test (scans (w ∷ ws) s) (right_shape (w ∷ ws) s)
    (λ h. let e : s ≡ written (found (w ∷ ws) s) = scan_closing (w ∷ ws) s h ∙ written_closing (found (w ∷ ws) s) (found_some w ws s) in
    ap (right_shape (w ∷ ws)) e ∙ written_right w ws (found (w ∷ ws) s) (scan_fits (w ∷ ws) s h))
    (λ h. ap (scans (w ∷ ws)) (right_closing (w ∷ ws) s h) ∙ closing_scans (w ∷ ws) (fields_in (body s)) (right_fits (w ∷ ws) s h))

pub scan_right : (ws s : List ℕ) → 1 ≤ length ws → scans ws s ≡ right_shape ws s
scan_right [] s h = absurd (omega arith)
scan_right (w ∷ ws) s h = scan_right_some w ws s

pub scan_numbers : (ws s : List ℕ) → right_shape ws s ≡ true → scanned ws s ≡ numbers_of s
unfolding numbers_of
scan_numbers ws s h = ap (scanned ws) (right_closing ws s h) ∙ closing_scanned ws (fields_in (body s)) (right_fits ws s h)

-- ---- how long a line of right shape is, and how large its numbers are

module _ (ws s : List ℕ) (n : 1 ≤ length ws) (h : right_shape ws s ≡ true) where
  pub shape_least : 2 * length ws + 1 ≤ length s
  shape_least = scan_least ws s (scan_right ws s n ∙ h)

  pub shape_most : length s ≤ total ws + length ws + 1
  shape_most = scan_most ws s (scan_right ws s n ∙ h)

  pub number_below : (k : ℕ) → get_or (numbers_of s) k 0 < 10 ^ get_or ws k 0
  number_below k = rw (← scan_numbers ws s h) (numbers_small ws s k)

-- ---- decimals as fields

pub fits_none : fits_in [] [] ≡ true
unfolding fits_in
fits_none = refl

-- a number below 10 to the width is a field that fits, in front of others that fit
pub fits_decimal : (n v : ℕ) (ws : List ℕ) (fs : List (List ℕ)) → n ≤ 19 → v < 10 ^ suc n → fits_in ws fs ≡ true
    → fits_in (suc n ∷ ws) (decimal v ∷ fs) ≡ true
unfolding fits_in
fits_decimal n v ws fs l k h =
    let m : suc n ≤ 20 = omega arith in
    let t : v < 100000000000000000000 = omega (arith, pow-le-pow_right {n = 10} (omega arith) m) in
    let some = le-leb 1 (length (decimal v)) (decimal_some 19 v) in
    let short = le-leb (length (decimal v)) (suc n) (decimal_short n v l k) in
    rw (decimal_digits 19 v (omega arith), some, short) h
