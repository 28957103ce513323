-- A text and the first of its bytes that is a mark: what stands before it and after it (02, E4; the words quoted are those of
-- docs/DECISIONS.md, 78 to 80).
use Rattle.std.specs.Prelude.{Bool, true, false, cond, ◌&&◌, ◌||◌, List, [], ◌∷◌, ℕ, eqb}
use Rattle.checks.specs.Range.{in_range}

-- two bytes may stand for one mark, as e and E do
abbrev pub is_mark : ℕ → ℕ → ℕ → Bool
is_mark m n b = eqb b m || eqb b n

unfoldable pub has : ℕ → ℕ → List ℕ → Bool
has m n [] = false
has m n (b ∷ s) = is_mark m n b || has m n s

-- all of it, where it has no mark
unfoldable pub before : ℕ → ℕ → List ℕ → List ℕ
before m n [] = []
before m n (b ∷ s) = cond (is_mark m n b) [] (b ∷ before m n s)

unfoldable pub after : ℕ → ℕ → List ℕ → List ℕ
after m n [] = []
after m n (b ∷ s) = cond (is_mark m n b) s (after m n s)

-- ---- a text's first bytes

abbrev pub space : ℕ
space = 32

-- "every field but a text field may begin with spaces"
unfoldable pub unspaced : List ℕ → List ℕ
unspaced [] = []
unspaced (b ∷ s) = cond (eqb b space) (unspaced s) (b ∷ s)

-- without its first byte, where that is a mark
unfoldable pub unmarked : ℕ → ℕ → List ℕ → List ℕ
unmarked m n [] = []
unmarked m n (b ∷ s) = cond (is_mark m n b) s (b ∷ s)

unfoldable pub begins_with : ℕ → List ℕ → Bool
begins_with m [] = false
begins_with m (b ∷ s) = eqb b m

-- ---- all of its bytes

unfoldable pub all_within : ℕ → ℕ → List ℕ → Bool
all_within low high [] = true
all_within low high (b ∷ s) = in_range low high b && all_within low high s

-- "printable ASCII": no control byte, none over 126
abbrev pub all_printable : List ℕ → Bool
all_printable s = all_within 32 126 s
