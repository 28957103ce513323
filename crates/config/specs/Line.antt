-- A line of right shape (02, E4; the words quoted are those of docs/DECISIONS.md, 77 and 78).
use Rattle.std.specs.Prelude.{Bool, true, false, ◌&&◌, List, [], ◌∷◌, ℕ, leb, length}
use Rattle.text.specs.Line.{ends_cr_lf, body, fields_in}
use Rattle.fields.specs.declared.field.Field.{Field}
use Rattle.fields.specs.Marks.{all_printable}
use Rattle.fields.specs.Field.{fits_field}

-- as many fields as the shape has, and each is what it must be
unfoldable pub fit_all : List Field → List (List ℕ) → Bool
fit_all [] [] = true
fit_all [] (f ∷ fs) = false
fit_all (k ∷ ks) [] = false
fit_all (k ∷ ks) (f ∷ fs) = fits_field k f && fit_all ks fs

-- "at most 256 bytes with it"
abbrev pub longest_line : ℕ
longest_line = 256

-- closed by CR LF, "a lone CR or LF, a control byte or a byte over 126 in a line is malformed", and its fields by commas
unfoldable pub is_right : List Field → List ℕ → Bool
is_right ks l = leb (length l) longest_line && (ends_cr_lf l && (all_printable (body l) && fit_all ks (fields_in (body l))))
