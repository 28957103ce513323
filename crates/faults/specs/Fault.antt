-- The faults of a line of numbers, each with its place, and the one that is told (02, E5). An offset parts the line into the
-- bytes `before` it and those `after` it, the first of which stands at it; "The end stands at the row's length": all bytes are
-- before it. A flaw is looked for at every offset by itself, also where it only follows from an earlier one.
use Rattle.std.specs.Prelude.{Bool, true, false, cond, not, ◌&&◌, ◌||◌, List, [], ◌∷◌, ◌++◌, Option, Some, None, ℕ, ◌+◌, leb, ltb, eqb, length, get_or}
use Rattle.faults.specs.declared.fault.Flaw.{Flaw}
use Rattle.faults.specs.declared.fault.Flaw.TheVariants.{NoDigit, DigitTooMany, StrayByte, FieldCount, LineEnd}
use Rattle.faults.specs.declared.fault.Fault.{Fault}
use Rattle.text.specs.Number.{is_digit}
use Rattle.text.specs.Line.{comma, cr, lf, is_lf, fields_in}

-- ---- what stands at an offset

-- the end, where it is said of the bytes after an offset
abbrev pub is_empty : List ℕ → Bool
is_empty [] = true
is_empty (b ∷ s) = false

abbrev pub begins : ℕ → List ℕ → Bool
begins b [] = false
begins b (a ∷ s) = eqb a b

abbrev pub begins_digit : List ℕ → Bool
begins_digit [] = false
begins_digit (a ∷ s) = is_digit a

-- a byte "that isn't digit or comma", nor the CR itself
abbrev pub begins_stray : List ℕ → Bool
begins_stray [] = false
begins_stray (a ∷ s) = not (is_digit a || (eqb a comma || eqb a cr))

-- ---- what stands before an offset

unfoldable pub count_of : ℕ → List ℕ → ℕ
count_of b [] = 0
count_of b (a ∷ s) = cond (eqb a b) (count_of b s + 1) (count_of b s)

-- "the field, 1 plus the commas before it"
abbrev pub field_at : List ℕ → ℕ
field_at before = count_of comma before + 1

-- the last of some fields
unfoldable pub last_of : List (List ℕ) → List ℕ
last_of [] = []
last_of (f ∷ []) = f
last_of (f ∷ g ∷ gs) = last_of (g ∷ gs)

-- what stands of the offset's field before it
abbrev pub begun : List ℕ → List ℕ
begun before = last_of (fields_in before)

unfoldable pub digits_in : List ℕ → ℕ
digits_in [] = 0
digits_in (a ∷ s) = cond (is_digit a) (digits_in s + 1) (digits_in s)

-- the CR of a line is its first
abbrev pub no_cr : List ℕ → Bool
no_cr before = eqb (count_of cr before) 0

-- what stands after the CR; nothing where there is none
unfoldable pub since_cr : List ℕ → List ℕ
since_cr [] = []
since_cr (a ∷ s) = cond (eqb a cr) s (since_cr s)

abbrev pub right_after_cr : List ℕ → Bool
right_after_cr before = not (no_cr before) && is_empty (since_cr before)

abbrev pub right_after_cr_lf : List ℕ → Bool
right_after_cr_lf before = is_lf (since_cr before)

-- ---- whether a flaw stands at an offset of a line that is due fields of these widths; a field past them has width 0

-- the last field that is due has its digits, and no more follow
abbrev pub cr_due : List ℕ → List ℕ → List ℕ → Bool
cr_due ws before after = eqb (field_at before) (length ws) && (not (is_empty (begun before)) && not (begins_digit after))

abbrev pub stands : Flaw → List ℕ → List ℕ → List ℕ → Bool
-- "a field with no digit (a comma, CR or end where its first is due)"
stands NoDigit ws before after =
    no_cr before && (is_empty (begun before) && (begins comma after || (begins cr after || is_empty after)))
-- "a digit too many"
stands DigitTooMany ws before after =
    no_cr before && (begins_digit after && leb (get_or ws (count_of comma before) 0) (digits_in (begun before)))
-- "a byte before the CR that isn't digit or comma"
stands StrayByte ws before after = no_cr before && begins_stray after
-- "too few or too many fields (at the CR or end; at the comma)"
stands FieldCount ws before after =
    no_cr before
    && ((begins cr after || is_empty after) && ltb (field_at before) (length ws) || begins comma after && leb (length ws) (field_at before))
-- "a missing CR LF or bytes after it (at the first wrong byte, or the end)": the end or another byte where the CR is due, the end
-- or another byte where its LF is, the first byte after CR LF
stands LineEnd ws before after =
    no_cr before && (is_empty after || cr_due ws before after && not (begins cr after))
    || (right_after_cr before && not (begins lf after) || right_after_cr_lf before && not (is_empty after))

-- ---- all faults of a line

-- "the order just given"
abbrev pub in_order : List Flaw
in_order = NoDigit ∷ DigitTooMany ∷ StrayByte ∷ FieldCount ∷ LineEnd ∷ []

-- "The answer carries the byte offset in the row and the field"
abbrev pub fault_at : Flaw → List ℕ → Fault
fault_at flaw before = record { flaw = flaw; offset = length before; field = field_at before }

-- those of some flaws that stand at an offset
abbrev pub faults_of : List Flaw → List ℕ → List ℕ → List ℕ → List Fault
faults_of [] ws before after = []
faults_of (flaw ∷ flaws) ws before after =
    cond (stands flaw ws before after) (fault_at flaw before ∷ faults_of flaws ws before after) (faults_of flaws ws before after)

abbrev pub faults_here : List ℕ → List ℕ → List ℕ → List Fault
faults_here ws before after = faults_of in_order ws before after

-- those at this offset and at each one after it
unfoldable pub faults_from : List ℕ → List ℕ → List ℕ → List Fault
faults_from ws before [] = faults_here ws before []
faults_from ws before (b ∷ after) = faults_here ws before (b ∷ after) ++ faults_from ws (before ++ (b ∷ [])) after

-- ---- the one that is told

-- "Where several faults are in a row, the one at the lowest offset is told; at one offset the order just given decides": the
-- first in the list of those at the lowest offset
unfoldable pub lowest_of : Fault → List Fault → Fault
lowest_of f [] = f
lowest_of f (g ∷ gs) = lowest_of (cond (ltb g.offset f.offset) g f) gs

unfoldable pub told : List Fault → Option Fault
told [] = None
told (f ∷ fs) = Some (lowest_of f fs)

-- THE SHAPE OF A LINE that is due fields of these widths: its fault, or none where it is right
unfoldable pub shape_of : List ℕ → List ℕ → Option Fault
shape_of ws s = told (faults_from ws [] s)

abbrev pub is_right : Option Fault → Bool
is_right None = true
is_right (Some f) = false
