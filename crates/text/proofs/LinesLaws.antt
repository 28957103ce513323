-- The lines of a stream: put together they are the stream; each but the last is closed. Where CR LF closes a line, none has it
-- before its end, and a line of right shape at the front of a stream is its first line, and the first that the cutter closes.
-- Assumes nothing.
use mathlib.Core.Path.{◌≡◌, refl, sym, ap, ◌∙◌}
use mathlib.Core.Bool.{Bool, true, false, cond, ◌&&◌, ◌||◌, and-false}
use mathlib.Core.List.{List, [], ◌∷◌, ◌++◌, append_assoc, append-nil}
use Prim.Native.Nat.{ℕ, zero, suc, ◌+◌, ◌-◌, ◌≤◌}
use native.Mathlib.Omega.{arith}
use lib.Dec.{eqb, lit<}
use lib.ListN.{length, take, length-append}
use lib.Seq.{take-append_seam}
use borrow.Author.Tests.{ne_eqb}
use Rattle.text.specs.Line.{cr, lf, is_lf, ends_cr_lf, body, cr_lf, fields_in, right_shape, spelled, written}
use Rattle.text.specs.declared.lines.Closer.{Closer}
use Rattle.text.specs.declared.lines.Closer.TheVariants.{CrLf}
use Rattle.text.specs.Lines.{closed_by, last_line, lines_from, lines_of, one_more, cutting, joined}
use Rattle.checks.proofs.Cases.{by_cond, not_both}
use Rattle.text.proofs.LackLaws.{lacks, first_lacks, rest_lacks, spelled_lacks, Each}
use Rattle.text.proofs.ShapeLaws.{crlf_ends, right_fits, right_written, fits_lack}

-- ---- put together they are the input

join_last : (l : List ℕ) → joined (last_line l) ≡ l
unfolding joined last_line
join_last [] = refl
join_last (a ∷ l) = append-nil (a ∷ l)

join_from : (closer : Closer) (l s : List ℕ) → joined (lines_from closer l s) ≡ l ++ s
unfolding lines_from joined
join_from closer l [] = join_last l ∙ sym (append-nil l)
join_from closer l (b ∷ s) =
    by_cond (λ (ls : List (List ℕ)). joined ls ≡ l ++ b ∷ s) (closed_by closer (l ++ (b ∷ []))) ((l ++ (b ∷ [])) ∷ lines_from closer [] s) (lines_from closer (l ++ (b ∷ [])) s)
    (λ e. ap (λ (t : List ℕ). (l ++ (b ∷ [])) ++ t) (join_from closer [] s) ∙ append_assoc l (b ∷ []) s)
    (λ e. join_from closer (l ++ (b ∷ [])) s ∙ append_assoc l (b ∷ []) s)

pub lines_join : (closer : Closer) (s : List ℕ) → joined (lines_of closer s) ≡ s
lines_join closer s = join_from closer [] s

-- ---- each but the last is closed

unfoldable pub closed_but_last : Closer → List (List ℕ) → Bool
closed_but_last closer [] = true
closed_but_last closer (l ∷ []) = true
closed_but_last closer (l ∷ m ∷ ls) = closed_by closer l && closed_but_last closer (m ∷ ls)

closed_cons : (closer : Closer) (l : List ℕ) (ls : List (List ℕ)) → closed_by closer l ≡ true → closed_but_last closer ls ≡ true → closed_but_last closer (l ∷ ls) ≡ true
unfolding closed_but_last
closed_cons closer l [] e h = refl
closed_cons closer l (m ∷ ls) e h = rw (e, h)

closed_last : (closer : Closer) (l : List ℕ) → closed_but_last closer (last_line l) ≡ true
unfolding closed_but_last last_line
closed_last closer [] = refl
closed_last closer (a ∷ l) = refl

closed_from : (closer : Closer) (l s : List ℕ) → closed_but_last closer (lines_from closer l s) ≡ true
unfolding lines_from
closed_from closer l [] = closed_last closer l
closed_from closer l (b ∷ s) =
    by_cond (λ (ls : List (List ℕ)). closed_but_last closer ls ≡ true) (closed_by closer (l ++ (b ∷ []))) ((l ++ (b ∷ [])) ∷ lines_from closer [] s) (lines_from closer (l ++ (b ∷ [])) s)
    (λ e. closed_cons closer (l ++ (b ∷ [])) (lines_from closer [] s) e (closed_from closer [] s))
    (λ e. closed_from closer (l ++ (b ∷ [])) s)

pub lines_closed : (closer : Closer) (s : List ℕ) → closed_but_last closer (lines_of closer s) ≡ true
lines_closed closer s = closed_from closer [] s

-- ---- none has CR LF before its end

abbrev begins_lf : List ℕ → Bool
begins_lf [] = false
begins_lf (b ∷ s) = eqb b lf

-- CR LF stands somewhere in a text
unfoldable pub has_cr_lf : List ℕ → Bool
has_cr_lf [] = false
has_cr_lf (a ∷ s) = eqb a cr && begins_lf s || has_cr_lf s

-- no line has it before its last byte
unfoldable pub only_at_end : List (List ℕ) → Bool
only_at_end [] = true
only_at_end (l ∷ ls) = cond (has_cr_lf (take (length l - 1) l)) false (only_at_end ls)

or_left : (a b : Bool) → a || b ≡ false → a ≡ false
or_left true b h = h
or_left false b h = refl

or_right : (a b : Bool) → a || b ≡ false → b ≡ false
or_right true b h = absurd (not_both true refl h)
or_right false b h = h

or_none : (a b : Bool) → a ≡ false → b ≡ false → a || b ≡ false
or_none a b h k = rw (h, k)

-- CR LF that comes with a byte stands at the end
has_snoc : (l : List ℕ) (b : ℕ) → has_cr_lf l ≡ false → ends_cr_lf (l ++ (b ∷ [])) ≡ false → has_cr_lf (l ++ (b ∷ [])) ≡ false
unfolding has_cr_lf ends_cr_lf is_lf
has_snoc [] b h e = or_none (eqb b cr && false) false (and-false (eqb b cr)) refl
has_snoc (a ∷ []) b h e = or_none (eqb a cr && eqb b lf) (eqb b cr && false || false) (or_left (eqb a cr && eqb b lf) _ e) (rw (and-false (eqb b cr)))
has_snoc (a ∷ c ∷ l) b h e =
    or_none (eqb a cr && eqb c lf) (has_cr_lf (c ∷ (l ++ (b ∷ [])))) (or_left (eqb a cr && eqb c lf) _ h)
    (has_snoc (c ∷ l) b (or_right (eqb a cr && eqb c lf) _ h) (or_right (eqb a cr && is_lf (c ∷ (l ++ (b ∷ [])))) _ e))

has_front : (l : List ℕ) (n : ℕ) → has_cr_lf l ≡ false → has_cr_lf (take n l) ≡ false
unfolding has_cr_lf
has_front l zero h = refl
has_front [] (suc n) h = refl
has_front (a ∷ []) (suc zero) h = rw (and-false (eqb a cr))
has_front (a ∷ []) (suc (suc n)) h = h
has_front (a ∷ b ∷ l) (suc zero) h = rw (and-false (eqb a cr))
has_front (a ∷ b ∷ l) (suc (suc n)) h =
    or_none (eqb a cr && eqb b lf) (has_cr_lf (b ∷ take n l)) (or_left (eqb a cr && eqb b lf) _ h) (has_front (b ∷ l) (suc n) (or_right (eqb a cr && eqb b lf) _ h))

nothing_has : has_cr_lf [] ≡ false
unfolding has_cr_lf
nothing_has = refl

only_last : (l : List ℕ) → has_cr_lf l ≡ false → only_at_end (last_line l) ≡ true
unfolding only_at_end last_line
only_last [] h = refl
only_last (a ∷ l) h = rw (has_front (a ∷ l) (length (a ∷ l) - 1) h)

only_from : (l s : List ℕ) → has_cr_lf l ≡ false → only_at_end (lines_from CrLf l s) ≡ true
unfolding lines_from only_at_end
only_from l [] h = only_last l h
only_from l (b ∷ s) h =
    let n : length (l ++ (b ∷ [])) - 1 ≡ length l = rw length-append (omega arith) in
    by_cond (λ (ls : List (List ℕ)). only_at_end ls ≡ true) (ends_cr_lf (l ++ (b ∷ []))) ((l ++ (b ∷ [])) ∷ lines_from CrLf [] s) (lines_from CrLf (l ++ (b ∷ [])) s)
    (λ e. rw (n, take-append_seam l (b ∷ []), h) (only_from [] s nothing_has))
    (λ e. only_from (l ++ (b ∷ [])) s (has_snoc l b h e))

pub lines_only_at_end : (s : List ℕ) → only_at_end (lines_of CrLf s) ≡ true
lines_only_at_end s = only_from [] s nothing_has

-- ---- an input without CR LF is one line

pub has_ends : (l : List ℕ) → has_cr_lf l ≡ false → ends_cr_lf l ≡ false
unfolding has_cr_lf ends_cr_lf is_lf
has_ends [] h = refl
has_ends (a ∷ []) h = rw (and-false (eqb a cr))
has_ends (a ∷ b ∷ []) h = or_none (eqb a cr && eqb b lf) (eqb b cr && false || false) (or_left (eqb a cr && eqb b lf) _ h) (rw (and-false (eqb b cr)))
has_ends (a ∷ b ∷ d ∷ l) h =
    or_none (eqb a cr && (eqb (suc (suc (length l))) 1 && eqb b lf)) (ends_cr_lf (b ∷ d ∷ l))
    (rw (ne_eqb (suc (suc (length l))) 1 (λ e. omega arith), and-false (eqb a cr)))
    (has_ends (b ∷ d ∷ l) (or_right (eqb a cr && eqb b lf) _ h))

has_take : (l s : List ℕ) → has_cr_lf (l ++ s) ≡ false → has_cr_lf l ≡ false
has_take l s h = rw (take-append_seam l s) at (has_front (l ++ s) (length l) h)

open_from : (l s : List ℕ) → has_cr_lf (l ++ s) ≡ false → lines_from CrLf l s ≡ last_line (l ++ s)
unfolding lines_from
open_from l [] h = ap last_line (sym (append-nil l))
open_from l (b ∷ s) h =
    let k : has_cr_lf ((l ++ (b ∷ [])) ++ s) ≡ false = ap has_cr_lf (append_assoc l (b ∷ []) s) ∙ h in
    let e : ends_cr_lf (l ++ (b ∷ [])) ≡ false = has_ends (l ++ (b ∷ [])) (has_take (l ++ (b ∷ [])) s k) in
    rw e (open_from (l ++ (b ∷ [])) s k ∙ ap last_line (append_assoc l (b ∷ []) s))

pub open_input : (s : List ℕ) → has_cr_lf s ≡ false → lines_of CrLf s ≡ last_line s
open_input s h = open_from [] s h

-- ---- a line of right shape at the front is the first line

-- only LF closes a line
ends_other : (l : List ℕ) (b : ℕ) → eqb b lf ≡ false → ends_cr_lf (l ++ (b ∷ [])) ≡ false
unfolding ends_cr_lf is_lf
ends_other [] b h = or_none (eqb b cr && false) false (and-false (eqb b cr)) refl
ends_other (a ∷ []) b h = or_none (eqb a cr && eqb b lf) (eqb b cr && false || false) (rw h (and-false (eqb a cr))) (rw (and-false (eqb b cr)))
ends_other (a ∷ d ∷ l) b h =
    let n : length (l ++ (b ∷ [])) ≡ length l + 1 = length-append l (b ∷ []) in
    or_none (eqb a cr && (eqb (suc (length (l ++ (b ∷ [])))) 1 && eqb d lf)) (ends_cr_lf (d ∷ (l ++ (b ∷ []))))
    (rw (ne_eqb (suc (length (l ++ (b ∷ [])))) 1 (λ e. omega arith), and-false (eqb a cr))) (ends_other (d ∷ l) b h)

first_from : (l t s : List ℕ) → lacks lf t ≡ true → lines_from CrLf l (t ++ cr ∷ lf ∷ s) ≡ (l ++ (t ++ cr_lf)) ∷ lines_from CrLf [] s
unfolding lines_from
first_from l [] s h =
    let e : (l ++ (cr ∷ [])) ++ (lf ∷ []) ≡ l ++ cr_lf = append_assoc l (cr ∷ []) (lf ∷ []) in
    rw (ends_other l cr refl, e, crlf_ends l)
first_from l (b ∷ t) s h =
    rw (ends_other l b (first_lacks lf b t h))
    (first_from (l ++ (b ∷ [])) t s (rest_lacks lf b t h) ∙ ap (λ (k : List ℕ). k ∷ lines_from CrLf [] s) (append_assoc l (b ∷ []) (t ++ cr_lf)))

-- no LF stands in a line before its CR LF
pub written_first_law : (fs : List (List ℕ)) (s : List ℕ) → Each (λ (f : List ℕ). lacks lf f ≡ true) fs → lines_of CrLf (written fs ++ s) ≡ written fs ∷ lines_of CrLf s
written_first_law fs s h =
    ap (lines_of CrLf) (append_assoc (spelled fs) cr_lf s) ∙ first_from [] (spelled fs) s (spelled_lacks lf refl fs h)

pub line_first : (ws l s : List ℕ) → right_shape ws l ≡ true → lines_of CrLf (l ++ s) ≡ l ∷ lines_of CrLf s
line_first ws l s h =
    let q = right_written ws l h in
    ap (λ (k : List ℕ). lines_of CrLf (k ++ s)) q
    ∙ written_first_law (fields_in (body l)) s (fits_lack lf (lit< tt) ws (fields_in (body l)) (right_fits ws l h))
    ∙ ap (λ (k : List ℕ). k ∷ lines_of CrLf s) (sym q)

-- ---- and the first that the cutter closes, where it is no longer than the limit

cut_from_law : (limit : ℕ) (l t s : List ℕ) → lacks lf t ≡ true → length l + length t + 2 ≤ limit → cutting CrLf limit l (t ++ cr ∷ lf ∷ s) ≡ one_more (l ++ (t ++ cr_lf)) (cutting CrLf limit [] s)
unfolding cutting
cut_from_law limit l [] s h k =
    let n : length (l ++ (cr ∷ [])) ≡ length l + 1 = length-append l (cr ∷ []) in
    let e : (l ++ (cr ∷ [])) ++ (lf ∷ []) ≡ l ++ cr_lf = append_assoc l (cr ∷ []) (lf ∷ []) in
    rw (ends_other l cr refl, ne_eqb (length (l ++ (cr ∷ []))) limit (λ f. omega (arith, f, n, k)), e, crlf_ends l)
cut_from_law limit l (b ∷ t) s h k =
    let n : length (l ++ (b ∷ [])) ≡ length l + 1 = length-append l (b ∷ []) in
    rw (ends_other l b (first_lacks lf b t h), ne_eqb (length (l ++ (b ∷ []))) limit (λ f. omega (arith, f, n, k)))
    (cut_from_law limit (l ++ (b ∷ [])) t s (rest_lacks lf b t h) (omega (arith, n, k)) ∙ ap (λ (m : List ℕ). one_more m (cutting CrLf limit [] s)) (append_assoc l (b ∷ []) (t ++ cr_lf)))

pub line_cut : (limit : ℕ) (ws l s : List ℕ) → right_shape ws l ≡ true → length l ≤ limit → cutting CrLf limit [] (l ++ s) ≡ one_more l (cutting CrLf limit [] s)
line_cut limit ws l s h k =
    let q = right_written ws l h in
    let fs = fields_in (body l) in
    let n : length l ≡ length (spelled fs) + 2 = ap length q ∙ length-append (spelled fs) cr_lf in
    ap (λ (m : List ℕ). cutting CrLf limit [] (m ++ s)) q
    ∙ ap (cutting CrLf limit []) (append_assoc (spelled fs) cr_lf s)
    ∙ cut_from_law limit [] (spelled fs) s (spelled_lacks lf refl fs (fits_lack lf (lit< tt) ws fs (right_fits ws l h))) (omega (arith, n, k))
    ∙ ap (λ (m : List ℕ). one_more m (cutting CrLf limit [] s)) (sym q)
