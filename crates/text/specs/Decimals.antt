-- A line of decimals: numbers as they are written, in the form that the reader of lines takes (01's data rows).
use Rattle.std.specs.Prelude.{List, [], ◌∷◌, ℕ}
use Rattle.text.specs.Number.{decimal}
use Rattle.text.specs.Line.{written}

-- the decimal of each number
abbrev pub decimals : List ℕ → List (List ℕ)
decimals [] = []
decimals (n ∷ ns) = decimal n ∷ decimals ns

-- a line of numbers: decimals without leading zeros, commas between, closed by CR LF
abbrev pub line_of : List ℕ → List ℕ
line_of ns = written (decimals ns)
