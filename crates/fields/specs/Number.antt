-- Whole numbers, decimals and numbers with an exponent (02, E4; the words quoted are those of docs/DECISIONS.md, 80 to 87).
use Rattle.std.specs.Prelude.{Bool, true, cond, ◌&&◌, ◌||◌, List, ◌++◌, ℕ, ◌*◌, ◌^◌, leb, eqb, length}
use Rattle.checks.specs.Range.{in_range}
use Rattle.text.specs.Number.{all_digits, value_of}
use Rattle.fields.specs.Marks.{has, before, after, unmarked, begins_with}

-- ---- marks

abbrev pub plus : ℕ
plus = 43

abbrev pub minus : ℕ
minus = 45

abbrev pub point : ℕ
point = 46

abbrev pub small_e : ℕ
small_e = 101

abbrev pub capital_e : ℕ
capital_e = 69

-- ---- whole numbers

-- so many digits, of a value in a range; leading zeros count as digits
abbrev pub is_whole : ℕ → ℕ → ℕ → ℕ → List ℕ → Bool
is_whole least most low high s = all_digits s && (in_range least most (length s) && in_range low high (value_of s))

-- a whole number up to a mark, and then what the rest must be
abbrev pub whole_then : ℕ → ℕ → ℕ → ℕ → ℕ → (List ℕ → Bool) → List ℕ → Bool
whole_then mark least most low high rest s =
    has mark mark s && (is_whole least most low high (before mark mark s) && rest (after mark mark s))

abbrev pub is_nothing : List ℕ → Bool
is_nothing s = eqb (length s) 0

-- "1 to 6 digits of value 3 and a capital A"
abbrev pub is_channels : ℕ → ℕ → List ℕ → Bool
is_channels value letter s = whole_then letter 1 6 value value is_nothing s

-- "min and max: an optional minus and 1 to 7 digits"
abbrev pub is_extreme : List ℕ → Bool
is_extreme s = is_whole 1 7 0 9999999 (unmarked minus minus s)

-- ---- decimals

abbrev pub unsigned : List ℕ → List ℕ
unsigned s = unmarked plus minus s

-- what stands before a mark, and optionally the mark and what stands after it
abbrev pub optionally : ℕ → ℕ → (List ℕ → Bool) → (List ℕ → Bool) → List ℕ → Bool
optionally m n first rest s = first (before m n s) && cond (has m n s) (rest (after m n s)) true

abbrev pub some_digits : List ℕ → Bool
some_digits s = leb 1 (length s) && all_digits s

-- "one or more digits, optionally a point and one or more digits"
abbrev pub is_unsigned_decimal : List ℕ → Bool
is_unsigned_decimal s = optionally point point some_digits some_digits s

-- "an optional sign"
abbrev pub is_decimal : List ℕ → Bool
is_decimal s = is_unsigned_decimal (unsigned s)

-- of a whole value: all its digits, as one number, are that value times ten for each digit after the point
abbrev pub is_of_value : ℕ → List ℕ → Bool
is_of_value v s = eqb (value_of (before point point s ++ after point point s)) (v * 10 ^ length (after point point s))

-- only 0 may have a minus
abbrev pub sign_fits : ℕ → List ℕ → Bool
sign_fits v s = cond (begins_with minus s) (eqb v 0) true

abbrev pub longest_number : ℕ
longest_number = 32

abbrev pub is_decimal_of : ℕ → List ℕ → Bool
is_decimal_of v s = leb (length s) longest_number && (sign_fits v s && (is_decimal s && is_of_value v (unsigned s)))

-- "with an optional exponent (`e` or `E`, optional sign, digits)"
abbrev pub is_exponent : List ℕ → Bool
is_exponent s = some_digits (unsigned s)

abbrev pub is_number : List ℕ → Bool
is_number s = leb (length s) longest_number && optionally small_e capital_e is_decimal is_exponent s

abbrev pub is_number_or_nothing : List ℕ → Bool
is_number_or_nothing s = is_nothing s || is_number s
