-- Numbers in text: digits and decimals (01's data rows).
use Rattle.std.specs.Prelude.{Bool, true, cond, ◌&&◌, List, [], ◌∷◌, ◌++◌, ℕ, zero, suc, ◌+◌, ◌-◌, ◌*◌, ◌/◌, ◌%◌, ltb, length}
use Rattle.checks.specs.Range.{in_range}
use Rattle.text.specs.declared.number.Digits.{Digits}

-- the bytes '0' to '9'
abbrev pub is_digit : ℕ → Bool
is_digit b = in_range 48 57 b

-- "Digits only"
unfoldable pub all_digits : List ℕ → Bool
all_digits [] = true
all_digits (d ∷ ds) = is_digit d && all_digits ds

-- the number that digits give after a number v
unfoldable pub value_from : ℕ → List ℕ → ℕ
value_from v [] = v
value_from v (d ∷ ds) = value_from (v * 10 + (d - 48)) ds

-- the number of a list of digits
abbrev pub value_of : List ℕ → ℕ
value_of ds = value_from 0 ds

-- the decimal of v, of at most n + 1 digits
unfoldable pub decimal_in : ℕ → ℕ → List ℕ
decimal_in zero v = (48 + v) ∷ []
decimal_in (suc n) v = cond (ltb v 10) ((48 + v) ∷ []) (decimal_in n (v / 10) ++ ((48 + v % 10) ∷ []))

-- "decimals without leading zeros": a 64-bit number has at most 20 digits
abbrev pub decimal : ℕ → List ℕ
decimal v = decimal_in 19 v

abbrev pub decimal_room : ℕ
decimal_room = 20

-- ---- what the reader of digits goes by

-- as many digits as it takes: their number fits in 64 bits
abbrev pub digit_limit : ℕ
digit_limit = 10

-- the digits that a text begins with, at most w of them
unfoldable pub leading : ℕ → List ℕ → List ℕ
leading zero s = []
leading (suc w) [] = []
leading (suc w) (b ∷ s) = cond (is_digit b) (b ∷ leading w s) []

-- n digits that gave v, and then these
abbrev pub digits_from : ℕ → ℕ → List ℕ → Digits
digits_from n v ds = record { count = n + length ds; value = value_from v ds }
