-- The status fields of the record (02, E1): "one for each bit of the output byte from bit 1 upward".
use Rattle.std.specs.Prelude.{List, [], ◌∷◌, ℕ, zero, suc, ◌+◌, ◌*◌, ◌/◌, ◌%◌}

-- the n lowest bits of a number, the lowest first: those of value 1, 2, 4 ..
abbrev pub bits_of : ℕ → ℕ → List ℕ
bits_of zero v = []
bits_of (suc n) v = v % 2 ∷ bits_of n (v / 2)

-- "eight status fields"
abbrev pub status_of : ℕ → List ℕ
status_of byte = bits_of 8 byte

-- ---- the other way round

-- the byte whose bits they are: the first has the value 1, each other twice that of the one before
unfoldable pub byte_of : List ℕ → ℕ
byte_of [] = 0
byte_of (b ∷ bs) = b + 2 * byte_of bs
