-- Words and sorts of fields, from what the code has at hand.
-- Assumes nothing.
use mathlib.Core.Path.{◌≡◌, refl}
use mathlib.Core.Bool.{Bool, true, false, false≢true}
use mathlib.Core.List.{List, [], ◌∷◌, map}
use Prim.Native.Nat.{ℕ, ◌≤◌}
use native.Mathlib.Omega.{arith}
use lib.Dec.{eqb}
use borrow.Author.Tests.{eq-eqb, eqb-true}
use Rattle.std.specs.Prelude.{◌↔◌}
use Rattle.checks.specs.Range.{in_range}
use Rattle.checks.proofs.Cases.{same_test}
use Rattle.checks.proofs.Tests.{both_true, in_range_law}
use Rattle.text.specs.Words.{bytes_of}
use Rattle.std.specs.Char.{to_ascii_lowercase}
use Rattle.std.proofs.lemmas.Bool.Decides.{nat_tests}
use Rattle.fields.specs.Marks.{all_within}
use Rattle.fields.specs.Field.{capital_of, is_word, is_primary_or_secondary}

-- ---- a word of capitals, in any case of letters

module _ (b c : ℕ) (low : 65 ≤ c) (high : c ≤ 90) where
  letter_same : to_ascii_lowercase b ≡ to_ascii_lowercase c → capital_of b ≡ c
  letter_same e = grind (arith, nat_tests)

  same_letter : capital_of b ≡ c → to_ascii_lowercase b ≡ to_ascii_lowercase c
  same_letter e = grind (arith, nat_tests)

same_head : (a b : ℕ) (s t : List ℕ) → a ∷ s ≡ b ∷ t → (a ≡ b) × (s ≡ t)
same_head a b s t e = (cc, cc)

word_lower : (w s : List ℕ) → all_within 65 90 w ≡ true → is_word w s ≡ true → map to_ascii_lowercase s ≡ map to_ascii_lowercase w
unfolding is_word all_within
word_lower [] [] h e = refl
word_lower [] (b ∷ s) h e = absurd (false≢true e)
word_lower (c ∷ w) [] h e = absurd (false≢true e)
word_lower (c ∷ w) (b ∷ s) h e =
    let (capital, others) = both_true (in_range 65 90 c) (all_within 65 90 w) h in
    let (here, more) = both_true (eqb (capital_of b) c) (is_word w s) e in
    let (low, high) = in_range_law 65 90 c capital in
    let first = same_letter b c low high (eqb-true (capital_of b) c here) in
    let rest = word_lower w s others more in
    rw (first, rest)

lower_word : (w s : List ℕ) → all_within 65 90 w ≡ true → map to_ascii_lowercase s ≡ map to_ascii_lowercase w → is_word w s ≡ true
unfolding is_word all_within
lower_word [] [] h e = refl
lower_word [] (b ∷ s) h e = cc
lower_word (c ∷ w) [] h e = cc
lower_word (c ∷ w) (b ∷ s) h e =
    let (capital, others) = both_true (in_range 65 90 c) (all_within 65 90 w) h in
    let (low, high) = in_range_law 65 90 c capital in
    let (here, more) = same_head (to_ascii_lowercase b) (to_ascii_lowercase c) (map to_ascii_lowercase s) (map to_ascii_lowercase w) e in
    rw (eq-eqb (capital_of b) c (letter_same b c low high here)) (lower_word w s others more)

-- the library's test of two texts, whatever the case of their letters
pub word_same : (w s : List ℕ) (r : Bool) → all_within 65 90 w ≡ true → (r ≡ true ↔ map to_ascii_lowercase s ≡ map to_ascii_lowercase w) → r ≡ is_word w s
word_same w s r h k = same_test r (is_word w s) (λ t. lower_word w s h (k.0 t)) (λ t. k.1 (word_lower w s h t))

pub capitals : (all_within 65 90 (bytes_of "P") ≡ true) × (all_within 65 90 (bytes_of "S") ≡ true) × (all_within 65 90 (bytes_of "ASCII") ≡ true)
unfolding all_within
capitals = (refl, refl, refl)

module _ (s : List ℕ) where
  pub is_primary : is_word (bytes_of "P") s ≡ true → is_primary_or_secondary s ≡ true
  is_primary e = rw e

  pub is_secondary : is_word (bytes_of "P") s ≡ false → is_primary_or_secondary s ≡ is_word (bytes_of "S") s
  is_secondary e = rw e
