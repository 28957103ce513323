-- What the reading of a number answers.
use Rattle.std.specs.Prelude.{◌≡◌, ℕ, ◌<◌, ◌^◌, List, Option, MatchOption}
use Rattle.std.specs.Str.Parse.{IsNumeral, digits_value}

-- at least one digit and nothing else, and the number fits in 64 bits
abbrev pub IsNumber : List ℕ → Type 0
IsNumber text = IsNumeral 10 text × (digits_value 10 text < 2 ^ 64)

-- the number of such a text, none of another
abbrev pub NumberRead : List ℕ → Option ℕ → Type 0
NumberRead text answer = MatchOption answer (¬ (IsNumber text)) (λ n. IsNumber text × (n ≡ digits_value 10 text))
