-- A configuration read by portions of the file: that the answer is that of the whole file.
-- Assumes nothing.
use mathlib.Core.Path.{◌≡◌, refl, sym, ap, ◌∙◌}
use mathlib.Core.Bool.{Bool, true, false, cond, ◌&&◌, and-false}
use mathlib.Core.List.{List, [], ◌∷◌, ◌++◌}
use mathlib.Core.Logic.{⊎_elim}
use Prim.Native.Nat.{ℕ, zero, suc, ◌+◌, ◌-◌, ◌≤◌, ◌<◌}
use native.Mathlib.Nat.{le_of_suc-le-suc, not-suc-le-zero, eq-or-lt_of_le}
use native.Mathlib.Omega.{arith}
use lib.Dec.{leb, ltb}
use Rattle.std.specs.Prelude.{Option, Some, None, is_none, Result, Ok, Err}
use lib.ListN.{length, get_or, drop, length-append, length-take}
use lib.Seq.{drop-cons}
use borrow.Author.Tests.{lt-leb, lt-ltb, le-ltb, ltb-true, ltb-false}
use Rattle.text.specs.Line.{ends_cr_lf}
use Rattle.text.specs.Lines.{lines_from, lines_of, Cutting, joined}
use Rattle.text.specs.Cutter.{held_line, cutter_after}
use Rattle.text.specs.device.Calls.{Holds}
use Rattle.text.specs.declared.lines.Closer.TheVariants.{CrLf}
use Rattle.fields.specs.declared.field.Field.{Field}
use Rattle.config.specs.declared.reader.Reading.{Reading}
use Rattle.config.specs.declared.reader.Reader.{Reader}
use Rattle.config.specs.declared.reader.Fault.{Fault}
use Rattle.config.specs.Refusals.{multiplier}
use Rattle.config.specs.Line.{longest_line, is_right}
use Rattle.config.specs.Shape.{Shape, shapes, line_count, no_shape, shape_at}
use Rattle.config.specs.Config.{refused_at, last_after, read_from, config_of}
use Rattle.config.specs.Reader.{is_due, is_right_at, number_due, passed, refused, after_line_if, after_line, after_lines, malformed, malformed_if}
use Rattle.config.specs.Reader.{line_limit, fresh_reader, cut_portion, taken, taken_if, take_answer, taken_all, last_reading, end_refusal, answer_by, answer_of, end_answer}
use Rattle.checks.proofs.Cases.{by_cond}
use Rattle.checks.proofs.Tests.{both_true, in_range_law, is_in_range, above_range}
use Rattle.text.proofs.CutLaws.{lines_cons, lines_nil, last_nothing, last_line_law, joined_none, joined_more}
use Rattle.text.proofs.CuttingLaws.{cut_lines, all_read, long_held}
use Rattle.text.proofs.KeptLaws.{empty_holds, line_kept, still_holds}

-- ---- what was refused stays

refused_stays : (r : Reading) (ls : List (List ℕ)) → is_none r.refusal ≡ false → after_lines r ls ≡ r
unfolding after_lines after_line_if
refused_stays r [] h = refl
refused_stays r (l ∷ ls) h = ap (λ (t : Bool). after_lines (after_line_if t r l) ls) h ∙ refused_stays r ls h

malformed_stays : (r : Reading) (ls : List (List ℕ)) → after_lines (malformed r) ls ≡ malformed r
malformed_stays r ls =
    refused_stays (malformed r) ls (by_cond (λ (q : Reading). is_none q.refusal ≡ false) (is_none r.refusal) (refused r) r (λ e. refl) (λ e. e))

-- ---- the lines of the whole file: their shapes one after the other, and the line that is due

-- n lines are passed
module _ (n line last : ℕ) (place : line ≡ suc n) where
  abbrev r : Reading
  r = record { line = line; last = last; refusal = None }

  refused_answer : (ls : List (List ℕ)) → answer_of (after_lines (refused r) ls) ≡ refused_at (number_due line) line
  unfolding end_refusal
  refused_answer ls = ap answer_of (refused_stays (refused r) ls refl)

  -- one of the thirteen is due
  module _ (more : n < line_count) where
    due : is_due line ≡ true
    due = is_in_range 1 line_count line (omega arith) (omega arith)

    number : number_due line ≡ (shape_at n).number
    number = let at : line - 1 ≡ n = omega arith in rw (due, at)

    right : (l : List ℕ) → is_right_at line l ≡ is_right (shape_at n).fields l
    right l = let at : line - 1 ≡ n = omega arith in rw (due, at)

    missing : refused_at (shape_at n).number line ≡ answer_of r
    unfolding end_refusal
    missing =
        let number_here : end_refusal r ≡ Some (number_due line) = rw (le-ltb line_count line (omega arith)) in
        ap (λ (k : ℕ). refused_at k line) (sym number) ∙ sym (ap (λ (k : Option ℕ). answer_by k r) number_here)

    line_by_law : (t : Bool) (l : List ℕ) (ls : List (List ℕ)) (next : Result ℕ Fault) → next ≡ answer_of (after_lines (passed r l) ls)
        → cond t next (refused_at (shape_at n).number line) ≡ answer_of (after_lines (cond t (passed r l) (refused r)) ls)
    line_by_law true l ls next e = e
    line_by_law false l ls next e = sym (refused_answer ls ∙ ap (λ (k : ℕ). refused_at k line) number)

    none_left : read_from line last (drop n shapes) [] ≡ answer_of (after_lines r [])
    unfolding read_from after_lines
    none_left = ap (λ (xs : List Shape). read_from line last xs []) (drop-cons shapes n no_shape more) ∙ missing

    one_more_law : (l : List ℕ) (ls : List (List ℕ)) → read_from (line + 1) (last_after line l last) (drop (suc n) shapes) ls ≡ answer_of (after_lines (passed r l) ls)
        → read_from line last (drop n shapes) (l ∷ ls) ≡ answer_of (after_lines r (l ∷ ls))
    unfolding read_from after_lines after_line_if
    one_more_law l ls e =
        ap (λ (xs : List Shape). read_from line last xs (l ∷ ls)) (drop-cons shapes n no_shape more)
        ∙ line_by_law (is_right (shape_at n).fields l) l ls (read_from (line + 1) (last_after line l last) (drop (suc n) shapes) ls) e
        ∙ ap (λ (t : Bool). answer_of (after_lines (cond t (passed r l) (refused r)) ls)) (sym (right l))

  -- none is
  module _ (full : n ≡ line_count) where
    late : is_due line ≡ false
    late = above_range 1 line_count line (omega arith)

    number_late : number_due line ≡ multiplier
    number_late = rw late

    too_many : (l : List ℕ) (ls : List (List ℕ)) → answer_of (after_lines r (l ∷ ls)) ≡ refused_at multiplier line
    unfolding after_lines after_line_if
    too_many l ls =
        ap (λ (t : Bool). answer_of (after_lines (cond (t && is_right (shape_at (line - 1)).fields l) (passed r l) (refused r)) ls)) late
        ∙ refused_answer ls
        ∙ ap (λ (k : ℕ). refused_at k line) number_late

    after_all : (ls : List (List ℕ)) → read_from line last (drop n shapes) ls ≡ answer_of (after_lines r ls)
    unfolding read_from after_lines end_refusal
    after_all [] = rw (place, full)
    after_all (l ∷ ls) = rw full (sym (too_many l ls))

-- the lines against their shapes give what the reading after them answers
lines_read : (n line last : ℕ) (ls : List (List ℕ)) → line ≡ suc n → n ≤ line_count
    → read_from line last (drop n shapes) ls ≡ answer_of (after_lines (record { line = line; last = last; refusal = None }) ls)
lines_read n line last [] place h = ⊎_elim (λ e. after_all n line last place e []) (λ more. none_left n line last place more) (eq-or-lt_of_le h)
lines_read n line last (l ∷ ls) place h =
    ⊎_elim (λ e. after_all n line last place e (l ∷ ls))
    (λ more. one_more_law n line last place more l ls (lines_read (suc n) (line + 1) (last_after line l last) ls (omega arith) (omega arith)))
    (eq-or-lt_of_le h)

-- ---- a line that is not right, whatever line is due

long_wrong : (l : List ℕ) → line_limit ≤ length l → (ks : List Field) → is_right ks l ≡ false
unfolding is_right
long_wrong l h ks = rw (lt-leb (length l) longest_line (omega arith))

open_wrong : (l : List ℕ) → ends_cr_lf l ≡ false → (ks : List Field) → is_right ks l ≡ false
unfolding is_right
open_wrong l h ks = rw (h, and-false (leb (length l) longest_line))

module _ (r : Reading) where
  wrong_by : (t : Bool) (l : List ℕ) → ((ks : List Field) → is_right ks l ≡ false) → after_line_if t r l ≡ cond t (refused r) r
  unfolding after_line_if
  wrong_by true l h = rw (h (shape_at (r.line - 1)).fields, and-false (is_due r.line))
  wrong_by false l h = refl

  wrong_ends : (l : List ℕ) (ls : List (List ℕ)) → ((ks : List Field) → is_right ks l ≡ false) → after_lines r (l ∷ ls) ≡ malformed r
  unfolding after_lines
  wrong_ends l ls h = ap (λ (q : Reading). after_lines q ls) (wrong_by (is_none r.refusal) l h) ∙ malformed_stays r ls

  -- the end of the file in a line that is not closed
  open_ends : (l : List ℕ) → 0 < length l → ends_cr_lf l ≡ false → after_lines r (lines_from CrLf l []) ≡ malformed r
  open_ends l k h = rw (lines_nil CrLf l, last_line_law l k) (wrong_ends l [] (open_wrong l h))

  -- a line that is too long is malformed wherever it ends
  long_ends : (l s : List ℕ) → line_limit ≤ length l → after_lines r (lines_from CrLf l s) ≡ malformed r
  long_ends l [] h = rw (lines_nil CrLf l, last_line_law l (omega arith)) (wrong_ends l [] (long_wrong l h))
  long_ends l (a ∷ s) h =
      let k : line_limit ≤ length (l ++ (a ∷ [])) = rw length-append (omega arith) in
      rw (lines_cons CrLf l s a)
      (by_cond (λ (ls : List (List ℕ)). after_lines r ls ≡ malformed r) (ends_cr_lf (l ++ (a ∷ [])))
      ((l ++ (a ∷ [])) ∷ lines_from CrLf [] s) (lines_from CrLf (l ++ (a ∷ [])) s)
      (λ e. wrong_ends (l ++ (a ∷ [])) (lines_from CrLf [] s) (long_wrong (l ++ (a ∷ [])) k))
      (λ e. long_ends (l ++ (a ∷ [])) s k))

after_append : (r : Reading) (ls ms : List (List ℕ)) → after_lines r (ls ++ ms) ≡ after_lines (after_lines r ls) ms
unfolding after_lines
after_append r [] ms = refl
after_append r (l ∷ ls) ms = after_append (after_line r l) ls ms

-- ---- portions

-- the reading after the line held and the rest of the file
unfoldable read_on : Reader → List ℕ → Reading
read_on r s = after_lines r.reading (lines_from CrLf (held_line r.cutter) s)

module _ (r : Reader) (h : Holds CrLf line_limit r.cutter) where
  taken_holds : (s : List ℕ) → Holds CrLf line_limit (taken r s).cutter
  unfolding taken
  taken_holds s = still_holds CrLf line_limit (omega arith) r.cutter s h

  answer_taken : (s : List ℕ) → take_answer r s ≡ taken r s
  unfolding taken_if
  answer_taken s = ap (λ (t : Bool). taken_if t r s) (lt-ltb r.cutter.count line_limit h.short)

  module _ (s t : List ℕ) where
    abbrev x : Cutting
    x = cut_portion r s

    abbrev q : Reading
    q = after_lines r.reading x.lines

    rest_by : (b : Bool) → x.too_long ≡ b
        → after_lines q (lines_from CrLf x.held (x.unread ++ t)) ≡ after_lines (malformed_if b q) (lines_from CrLf (held_line (cutter_after x r.cutter s)) t)
    unfolding malformed_if
    rest_by true e =
        long_ends q x.held (x.unread ++ t) (omega (arith, long_held CrLf line_limit (held_line r.cutter) s e))
        ∙ sym (malformed_stays q (lines_from CrLf (held_line (cutter_after x r.cutter s)) t))
    rest_by false e = rw (all_read CrLf line_limit (held_line r.cutter) s e, line_kept CrLf line_limit (omega arith) r.cutter s h e)

    read_taken : read_on r (s ++ t) ≡ read_on (taken r s) t
    unfolding read_on taken
    read_taken =
        ap (after_lines r.reading) (cut_lines CrLf line_limit (held_line r.cutter) s t)
        ∙ after_append r.reading x.lines (lines_from CrLf x.held (x.unread ++ t))
        ∙ rest_by x.too_long refl

  -- the end of the file
  end_by : (t : Bool) → ltb 0 r.cutter.count ≡ t → read_on r [] ≡ malformed_if t r.reading
  unfolding read_on malformed_if after_lines
  end_by true e =
      let k : 0 < length (held_line r.cutter) = rw length-take (omega (arith, h.short, h.room, ltb-true 0 r.cutter.count e)) in
      open_ends r.reading (held_line r.cutter) k h.unclosed
  end_by false e =
      let z : r.cutter.count ≡ 0 = omega (arith, ltb-false 0 r.cutter.count e) in
      let nothing : held_line r.cutter ≡ [] = rw z in
      rw (nothing, lines_nil CrLf [], last_nothing)

  read_end : read_on r [] ≡ last_reading r
  read_end = end_by (ltb 0 r.cutter.count) refl

read_portions : (r : Reader) (ps : List (List ℕ)) → Holds CrLf line_limit r.cutter → last_reading (taken_all r ps) ≡ read_on r (joined ps)
read_portions r [] h = rw joined_none (sym (read_end r h))
read_portions r (p ∷ ps) h =
    ap (λ (q : Reader). last_reading (taken_all q ps)) (answer_taken r h p)
    ∙ read_portions (taken r p) ps (taken_holds r h p)
    ∙ sym (read_taken r h p (joined ps))
    ∙ ap (read_on r) (sym (joined_more p ps))

-- THE ANSWER DOES NOT DEPEND ON THE PORTIONS: for any cutting of the file it is what the whole file gives
pub config_of_calls : (ps : List (List ℕ)) → end_answer (taken_all fresh_reader ps) ≡ config_of (joined ps)
unfolding config_of read_on
config_of_calls ps =
    ap answer_of (read_portions fresh_reader ps (empty_holds CrLf line_limit (omega arith)))
    ∙ sym (lines_read 0 1 0 (lines_of CrLf (joined ps)) refl (omega arith))

-- ---- after a refusal nothing that follows changes the answer, so that nothing more need be read

kept_if : (t : Bool) (q : Reading) → is_none q.refusal ≡ false → malformed_if t q ≡ q
unfolding malformed_if
kept_if true q h = rw h
kept_if false q h = refl

refused_taken : (r : Reader) (s : List ℕ) → is_none r.reading.refusal ≡ false → (take_answer r s).reading ≡ r.reading
unfolding taken_if taken malformed_if
refused_taken r s h = by_room (ltb r.cutter.count line_limit)
  where
    by_room : (t : Bool) → (taken_if t r s).reading ≡ r.reading
    by_room true =
        let x = cut_portion r s in
        ap (malformed_if x.too_long) (refused_stays r.reading x.lines h) ∙ kept_if x.too_long r.reading h
    by_room false = kept_if true r.reading h

all_refused : (r : Reader) (ps : List (List ℕ)) → is_none r.reading.refusal ≡ false → (taken_all r ps).reading ≡ r.reading
all_refused r [] h = refl
all_refused r (p ∷ ps) h =
    let here = refused_taken r p h in
    all_refused (take_answer r p) ps (ap (λ (q : Reading). is_none q.refusal) here ∙ h) ∙ here

pub refused_for_good : (r : Reader) (ps : List (List ℕ)) → is_none r.reading.refusal ≡ false → end_answer (taken_all r ps) ≡ end_answer r
refused_for_good r ps h =
    let all = all_refused r ps h in
    let still = ap (λ (q : Reading). is_none q.refusal) all ∙ h in
    ap answer_of
    (kept_if (ltb 0 (taken_all r ps).cutter.count) (taken_all r ps).reading still ∙ all ∙ sym (kept_if (ltb 0 r.cutter.count) r.reading h))

-- ---- no refusal has the number 0, which a caller reads as 'accepted' (`config_number`)

abbrev none_zero : List Shape → Bool
none_zero [] = true
none_zero (x ∷ xs) = ltb 0 x.number && none_zero xs

some_at : (xs : List Shape) → none_zero xs ≡ true → (n : ℕ) → n < length xs → 0 < (get_or xs n no_shape).number
some_at [] e n h = absurd (not-suc-le-zero h)
some_at (x ∷ xs) e zero h = ltb-true 0 x.number (both_true (ltb 0 x.number) (none_zero xs) e).0
some_at (x ∷ xs) e (suc n) h = some_at xs (both_true (ltb 0 x.number) (none_zero xs) e).1 n (le_of_suc-le-suc h)

pub number_some : (line : ℕ) → 0 < number_due line
number_some line =
    by_cond (λ (n : ℕ). 0 < n) (is_due line) (shape_at (line - 1)).number multiplier
    (λ e.
    let (low, high) = in_range_law 1 line_count line e in
    some_at shapes refl (line - 1) (omega (arith, low, high)))
    (λ e. omega arith)

-- a file that is accepted has no refusal
abbrev RefusedSome : Result ℕ Fault → Type 0
RefusedSome (Ok last) = Unit {0}
RefusedSome (Err x) = 0 < x.refusal

read_refused_some : (line last : ℕ) (xs : List Shape) (ls : List (List ℕ)) → none_zero xs ≡ true → RefusedSome (read_from line last xs ls)
unfolding read_from
read_refused_some line last [] [] e = tt
read_refused_some line last [] (l ∷ ls) e = omega arith
read_refused_some line last (x ∷ xs) [] e = ltb-true 0 x.number (both_true (ltb 0 x.number) (none_zero xs) e).0
read_refused_some line last (x ∷ xs) (l ∷ ls) e =
    let (here, others) = both_true (ltb 0 x.number) (none_zero xs) e in
    by_cond RefusedSome (is_right x.fields l) (read_from (line + 1) (last_after line l last) xs ls) (refused_at x.number line)
    (λ t. read_refused_some (line + 1) (last_after line l last) xs ls others)
    (λ t. ltb-true 0 x.number here)

pub refused_some : (s : List ℕ) (x : Fault) → config_of s ≡ Err x → 0 < x.refusal
unfolding config_of
refused_some s fault e =
    let some : RefusedSome (config_of s) = read_refused_some 1 0 shapes (lines_of CrLf s) refl in
    rw e at some

-- nor has what `Reader::finish` answers, for any cutting of the file
pub end_refused_some : (ps : List (List ℕ)) (x : Fault) → end_answer (taken_all fresh_reader ps) ≡ Err x → 0 < x.refusal
end_refused_some ps fault e = refused_some (joined ps) fault (sym (config_of_calls ps) ∙ e)
