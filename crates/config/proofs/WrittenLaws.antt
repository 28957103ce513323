-- A configuration put together from right fields is accepted with its last sample number; where lines are missing, the first
-- missing one decides.
-- Assumes nothing.
use mathlib.Core.Path.{◌≡◌, refl, ap, ◌∙◌}
use mathlib.Core.Bool.{Bool, true, cond, ◌&&◌, false≢true}
use mathlib.Core.List.{List, [], ◌∷◌, map}
use Prim.Native.Nat.{ℕ, zero, suc, ◌+◌, ◌-◌, ◌≤◌, ◌<◌}
use native.Mathlib.Nat.{zero-add}
use native.Mathlib.Omega.{arith}
use lib.Dec.{eqb, leb}
use lib.ListN.{length, get_or, take}
use borrow.Author.Tests.{le-leb, leb-true, eq-eqb, ne_eqb}
use Rattle.checks.proofs.Tests.{both_true}
use Rattle.text.specs.Number.{value_of}
use Rattle.text.specs.Line.{lf, comma, body, fields_in, spelled, written}
use Rattle.text.specs.Lines.{lines_of, joined}
use Rattle.text.specs.declared.lines.Closer.TheVariants.{CrLf}
use Rattle.text.proofs.LackLaws.{lacks, Each, by_spelled}
use Rattle.text.proofs.ShapeLaws.{crlf_ends, body_crlf, fields_spelled}
use Rattle.text.proofs.LinesLaws.{written_first_law}
use Rattle.fields.proofs.MarkLaws.{nothing_within, one_within, join_within, within_lacks}
use Rattle.text.proofs.CutLaws.{lines_nil, last_nothing, joined_none, joined_more}
use Rattle.fields.specs.declared.field.Field.{Field}
use Rattle.std.specs.Prelude.{Ok}
use Rattle.config.specs.Refusals.{multiplier}
use Rattle.fields.specs.Marks.{unspaced, all_printable}
use Rattle.config.specs.Line.{fit_all, longest_line, is_right}
use Rattle.config.specs.Shape.{Shape, shapes, line_count, no_shape, shape_at}
use Rattle.config.specs.Config.{refused_at, rate_line, read_from, config_of}

-- ---- right fields, and the file that is put together from them

-- printable ASCII without a comma, which would make two fields of it
abbrev pub is_plain : List ℕ → Bool
is_plain f = all_printable f && lacks comma f

-- the fields of one line
pub record RightFields (ks : List Field) (fs : List (List ℕ)) : Type 0 where
  pub fit : fit_all ks fs ≡ true
  pub plain : Each (λ (f : List ℕ). is_plain f ≡ true) fs
  pub short : length (written fs) ≤ longest_line

-- as many lines as shapes, each of right fields
abbrev pub AllRight : List Shape → List (List (List ℕ)) → Type 0
AllRight [] [] = Unit {0}
AllRight [] (fs ∷ fss) = ⊥
AllRight (x ∷ xs) [] = ⊥
AllRight (x ∷ xs) (fs ∷ fss) = RightFields x.fields fs × AllRight xs fss

-- the lines one after the other
abbrev pub file_of : List (List (List ℕ)) → List ℕ
file_of fss = joined (map written fss)

abbrev sample_in : List (List ℕ) → ℕ
sample_in fs = value_of (unspaced (get_or fs 1 []))

-- the second field of the rate line
abbrev pub last_sample_of : List (List (List ℕ)) → ℕ
last_sample_of fss = sample_in (get_or fss (rate_line - 1) [])

-- ---- the line that is put together is the first of a file that begins with it

abbrev AllPlain : List (List ℕ) → Type 0
AllPlain fs = Each (λ (f : List ℕ). is_plain f ≡ true) fs

no_commas : (fs : List (List ℕ)) → AllPlain fs → Each (λ (f : List ℕ). lacks comma f ≡ true) fs
no_commas [] h = tt
no_commas (f ∷ fs) (here, others) = ((both_true (all_printable f) (lacks comma f) here).1, no_commas fs others)

all_printable_law : (fs : List (List ℕ)) → AllPlain fs → Each (λ (f : List ℕ). all_printable f ≡ true) fs
all_printable_law [] h = tt
all_printable_law (f ∷ fs) (here, others) = ((both_true (all_printable f) (lacks comma f) here).0, all_printable_law fs others)

no_ends : (fs : List (List ℕ)) → AllPlain fs → Each (λ (f : List ℕ). lacks lf f ≡ true) fs
no_ends [] h = tt
no_ends (f ∷ fs) (here, others) =
    (within_lacks 32 126 lf (omega arith) f (both_true (all_printable f) (lacks comma f) here).0, no_ends fs others)

spelled_printable : (fs : List (List ℕ)) → AllPlain fs → all_printable (spelled fs) ≡ true
spelled_printable fs h =
    by_spelled (λ (f : List ℕ). all_printable f ≡ true) (nothing_within 32 126) (one_within 32 126 comma refl) (join_within 32 126) fs (all_printable_law fs h)

file_lines : (fs : List (List ℕ)) (fss : List (List (List ℕ))) → AllPlain fs
    → lines_of CrLf (file_of (fs ∷ fss)) ≡ written fs ∷ lines_of CrLf (file_of fss)
file_lines fs fss h =
    ap (lines_of CrLf) (joined_more (written fs) (map written fss)) ∙ written_first_law fs (file_of fss) (no_ends fs h)

no_lines : lines_of CrLf (file_of []) ≡ []
no_lines = rw (joined_none, lines_nil CrLf [], last_nothing)

-- ---- a line of right fields is right, and passed

fit_some : (ks : List Field) (fs : List (List ℕ)) → 1 ≤ length ks → fit_all ks fs ≡ true → 1 ≤ length fs
unfolding fit_all
fit_some [] fs some h = absurd (omega arith)
fit_some (k ∷ ks) [] some h = absurd (false≢true h)
fit_some (k ∷ ks) (f ∷ fs) some h = omega arith

module _ (ks : List Field) (fs : List (List ℕ)) (some : 1 ≤ length ks) (right : RightFields ks fs) where
  written_fields : fields_in (body (written fs)) ≡ fs
  written_fields = rw (body_crlf (spelled fs)) (fields_spelled fs (fit_some ks fs some right.fit) (no_commas fs right.plain))

  written_right : is_right ks (written fs) ≡ true
  unfolding is_right
  written_right =
      rw (
        le-leb (length (written fs)) longest_line right.short,
        crlf_ends (spelled fs),
        written_fields,
        body_crlf (spelled fs),
        spelled_printable fs right.plain,
      )
      right.fit

abbrev sample_after : ℕ → List (List ℕ) → ℕ → ℕ
sample_after line fs last = cond (eqb line rate_line) (sample_in fs) last

module _ (line last : ℕ) (x : Shape) (xs : List Shape) (fs : List (List ℕ)) (fss : List (List (List ℕ))) where
  line_passed : 1 ≤ length x.fields → RightFields x.fields fs
      → read_from line last (x ∷ xs) (lines_of CrLf (file_of (fs ∷ fss)))
      ≡ read_from (line + 1) (sample_after line fs last) xs (lines_of CrLf (file_of fss))
  unfolding read_from
  line_passed some right =
      rw (file_lines fs fss right.plain, written_right x.fields fs some right, written_fields x.fields fs some right)

-- ---- the lines one after the other

-- every shape has a field
abbrev some_fields : List Shape → Bool
some_fields [] = true
some_fields (x ∷ xs) = leb 1 (length x.fields) && some_fields xs

module _ (x : Shape) (xs : List Shape) (h : some_fields (x ∷ xs) ≡ true) where
  first_some : 1 ≤ length x.fields
  first_some = leb-true 1 (length x.fields) (both_true (leb 1 (length x.fields)) (some_fields xs) h).0

  rest_some : some_fields xs ≡ true
  rest_some = (both_true (leb 1 (length x.fields)) (some_fields xs) h).1

after_rate : (line last : ℕ) (xs : List Shape) (fss : List (List (List ℕ))) → rate_line < line → some_fields xs ≡ true
    → AllRight xs fss → read_from line last xs (lines_of CrLf (file_of fss)) ≡ Ok last
unfolding read_from
after_rate line last [] [] past some h = rw no_lines
after_rate line last [] (fs ∷ fss) past some h = absurd h
after_rate line last (x ∷ xs) [] past some h = absurd h
after_rate line last (x ∷ xs) (fs ∷ fss) past some (right, others) =
    line_passed line last x xs fs fss (first_some x xs some) right
    ∙ rw (ne_eqb line rate_line (λ e. omega (arith, past, e))) (after_rate (line + 1) last xs fss (omega arith) (rest_some x xs some) others)

-- n lines before the rate line
to_rate : (n line last : ℕ) (xs : List Shape) (fss : List (List (List ℕ))) → line + n ≡ rate_line → n < length xs → some_fields xs ≡ true
    → AllRight xs fss → read_from line last xs (lines_of CrLf (file_of fss)) ≡ Ok (sample_in (get_or fss n []))
to_rate n line last [] fss place more some h = absurd (omega arith)
to_rate n line last (x ∷ xs) [] place more some h = absurd h
to_rate zero line last (x ∷ xs) (fs ∷ fss) place more some (right, others) =
    line_passed line last x xs fs fss (first_some x xs some) right
    ∙ rw (eq-eqb line rate_line (omega arith)) (after_rate (line + 1) (sample_in fs) xs fss (omega arith) (rest_some x xs some) others)
to_rate (suc n) line last (x ∷ xs) (fs ∷ fss) place more some (right, others) =
    line_passed line last x xs fs fss (first_some x xs some) right
    ∙ to_rate n (line + 1) (sample_after line fs last) xs fss (omega arith) (omega arith) (rest_some x xs some) others

-- the first k lines stand there
missing_from : (k line last : ℕ) (xs : List Shape) (fss : List (List (List ℕ))) → k < length xs → some_fields xs ≡ true
    → AllRight (take k xs) fss → read_from line last xs (lines_of CrLf (file_of fss)) ≡ refused_at (get_or xs k no_shape).number (k + line)
unfolding read_from
missing_from k line last [] fss more some h = absurd (omega arith)
missing_from zero line last (x ∷ xs) [] more some h = rw (no_lines, zero-add line)
missing_from zero line last (x ∷ xs) (fs ∷ fss) more some h = absurd h
missing_from (suc k) line last (x ∷ xs) [] more some h = absurd h
missing_from (suc k) line last (x ∷ xs) (fs ∷ fss) more some (right, others) =
    let place : k + (line + 1) ≡ suc k + line = omega arith in
    line_passed line last x xs fs fss (first_some x xs some) right
    ∙ missing_from k (line + 1) (sample_after line fs last) xs fss (omega arith) (rest_some x xs some) others
    ∙ ap (refused_at (get_or xs k no_shape).number) place

-- A CONFIGURATION PUT TOGETHER FROM RIGHT FIELDS IS ACCEPTED, with its last sample number
pub put_together_accepted : (fss : List (List (List ℕ))) → AllRight shapes fss → config_of (file_of fss) ≡ Ok (last_sample_of fss)
unfolding config_of
put_together_accepted fss h = to_rate (rate_line - 1) 1 0 shapes fss refl (omega arith) refl h

-- WITH RIGHT LINES FOR THE FIRST k ALONE, of thirteen, it is refused with the line after them
pub lines_missing : (k : ℕ) → k < line_count → (fss : List (List (List ℕ))) → AllRight (take k shapes) fss
    → config_of (file_of fss) ≡ refused_at (shape_at k).number (k + 1)
unfolding config_of
lines_missing k more fss h = missing_from k 1 0 shapes fss more refl h

-- a file of twelve lines is refused with the thirteenth
pub twelve_lines : (fss : List (List (List ℕ))) → AllRight (take 12 shapes) fss → config_of (file_of fss) ≡ refused_at multiplier 13
twelve_lines fss h = lines_missing 12 (omega arith) fss h
