-- How many digits the fields of a line may have (01, 'Rows and the replay program').
use Rattle.std.specs.Prelude.{List, [], ◌∷◌, ℕ}

-- "number, timestamp, L1, L2, L3, block": "Digits only, at most 6, 10, 7, 7, 7 and 1 of them"
abbrev pub row_widths : List ℕ
row_widths = 6 ∷ 10 ∷ 7 ∷ 7 ∷ 7 ∷ 1 ∷ []

-- "The settings line holds the seven settings the same way, 1 to 5 digits each."
abbrev pub settings_widths : List ℕ
settings_widths = 5 ∷ 5 ∷ 5 ∷ 5 ∷ 5 ∷ 5 ∷ 5 ∷ []
