-- A line of numbers: fields "by commas, closed by CR LF" (01's data rows).
use Rattle.std.specs.Prelude.{Bool, true, false, cond, ◌&&◌, ◌||◌, List, [], ◌∷◌, ◌++◌, ℕ, ◌-◌, leb, eqb, length, get_or, take}
use Rattle.text.specs.Number.{all_digits, value_of}

abbrev pub comma : ℕ
comma = 44

abbrev pub cr : ℕ
cr = 13

abbrev pub lf : ℕ
lf = 10

-- LF and nothing after
unfoldable pub is_lf : List ℕ → Bool
is_lf s = eqb (length s) 1 && eqb (get_or s 0 0) lf

-- "closed by CR LF": CR and LF stand at the end
unfoldable pub ends_cr_lf : List ℕ → Bool
ends_cr_lf [] = false
ends_cr_lf (a ∷ s) = eqb a cr && is_lf s || ends_cr_lf s

-- a line without its CR LF
abbrev pub body : List ℕ → List ℕ
body s = take (length s - 2) s

-- one byte more at the front of the first field
abbrev pub into_first : ℕ → List (List ℕ) → List (List ℕ)
into_first b [] = (b ∷ []) ∷ []
into_first b (f ∷ fs) = (b ∷ f) ∷ fs

-- "by commas": what stands before, between and after the commas of a text
unfoldable pub fields_in : List ℕ → List (List ℕ)
fields_in [] = [] ∷ []
fields_in (b ∷ s) = cond (eqb b comma) ([] ∷ fields_in s) (into_first b (fields_in s))

-- "Digits only, at most .. of them, at least one each": as many fields as widths, and each fits its own
unfoldable pub fits_in : List ℕ → List (List ℕ) → Bool
fits_in [] [] = true
fits_in [] (f ∷ fs) = false
fits_in (w ∷ ws) [] = false
fits_in (w ∷ ws) (f ∷ fs) = all_digits f && (leb 1 (length f) && (leb (length f) w && fits_in ws fs))

-- the right shape, for fields of at most these widths
unfoldable pub right_shape : List ℕ → List ℕ → Bool
right_shape ws s = ends_cr_lf s && fits_in ws (fields_in (body s))

-- the numbers of fields; "leading zeros allowed"
abbrev pub values_of : List (List ℕ) → List ℕ
values_of [] = []
values_of (f ∷ fs) = value_of f ∷ values_of fs

unfoldable pub numbers_of : List ℕ → List ℕ
numbers_of s = values_of (fields_in (body s))

-- ---- the other way round: a line that is put together from its fields

abbrev pub cr_lf : List ℕ
cr_lf = cr ∷ lf ∷ []

-- the fields with commas between
unfoldable pub spelled : List (List ℕ) → List ℕ
spelled [] = []
spelled (f ∷ []) = f
spelled (f ∷ g ∷ gs) = f ++ comma ∷ spelled (g ∷ gs)

-- closed by CR LF. The laws `right_written` and `written_right` say that the lines of right shape are these, of fields
-- that fit.
abbrev pub written : List (List ℕ) → List ℕ
written fs = spelled fs ++ cr_lf

-- as many fields as reader and writer take
abbrev pub field_limit : ℕ
field_limit = 16
