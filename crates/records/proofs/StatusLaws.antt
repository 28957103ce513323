-- The status fields: that the bits of a number are bits, give it back and fit their fields, and how far the code has come in
-- reading them.
-- Assumes nothing.
use mathlib.Core.Path.{◌≡◌, refl, ap, ◌∙◌}
use mathlib.Core.Bool.{true}
use mathlib.Core.List.{List, ◌∷◌, reverse}
use Prim.Native.Nat.{ℕ, zero, suc, ◌+◌, ◌-◌, ◌*◌, ◌/◌, ◌%◌, ◌^◌, ◌≤◌, ◌<◌}
use native.Mathlib.Nat.{pow-suc}
use native.Mathlib.Omega.{arith}
use lib.ListN.{length, get_or, drop, replicate}
use lib.Seq.{drop-cons, drop-length}
use borrow.Author.Tests.{le-leb}
use Rattle.std.specs.Prelude.{None}
use Rattle.std.proofs.lemmas.List.{length-reverse, get_or-reverse, get_or_default}
use Rattle.checks.specs.Range.{all_bits}
use Rattle.checks.proofs.Cases.{not_true}
use Rattle.checks.proofs.Tests.{bit_at}
use Rattle.text.specs.Line.{fits_in}
use Rattle.text.specs.Decimals.{decimals}
use Rattle.text.proofs.ShapeLaws.{fits_none, fits_decimal}
use Rattle.records.specs.Status.{bits_of, byte_of}
use Rattle.records.specs.device.StatusRead.{status_answer}

-- ---- writing and reading

pub bits_are : (n v : ℕ) → all_bits (bits_of n v) ≡ true
unfolding all_bits
bits_are zero v = refl
bits_are (suc n) v = rw (le-leb (v % 2) 1 (omega arith), bits_are n (v / 2))

pub bits_back : (n v : ℕ) → v < 2 ^ n → byte_of (bits_of n v) ≡ v
unfolding byte_of
bits_back zero v h = omega arith
bits_back (suc n) v h =
    let k : v < 2 ^ n * 2 = rw (pow-suc 2 n) at h in
    rw (bits_back n (v / 2) (omega arith)) (omega arith)

-- as fields of one digit each
pub bits_fit : (n v : ℕ) → fits_in (replicate n 1) (decimals (bits_of n v)) ≡ true
bits_fit zero v = fits_none
bits_fit (suc n) v = fits_decimal 0 (v % 2) _ _ (omega arith) (omega arith) (bits_fit n (v / 2))

-- ---- the loop, from the last field to the first

-- the byte of the fields from k on
pub record StatusTurn (fields : List ℕ) (k byte : ℕ) : Type 0 where
  pub within : k ≤ length fields
  pub bits : all_bits (drop k fields) ≡ true
  pub same : byte ≡ byte_of (drop k fields)
  pub small : byte < 2 ^ (length fields - k)

pub turn_first : (fields : List ℕ) → StatusTurn fields (length fields - 0) 0
unfolding all_bits byte_of
turn_first fields =
    let all : length fields - 0 ≡ length fields = omega arith in
    let z : length fields - length fields ≡ 0 = omega arith in
    rw all (record {
      within = omega arith;
      bits = rw (drop-length fields);
      same = rw (drop-length fields);
      small = rw z (omega arith);
    })

-- what `iter().rev()` gives after n others, where m is one more
pub turn_item : (fields : List ℕ) (n m bit : ℕ) → m ≡ n + 1 → (n < length (reverse fields)) × (bit ≡ get_or (reverse fields) n bit) → (length fields - n ≡ suc (length fields - m)) × (bit ≡ get_or fields (length fields - m) 0)
turn_item fields n m bit more t =
    let h : n < length fields = omega (arith, t.0, length-reverse fields) in
    let place : length fields - 1 - n ≡ length fields - m = omega (arith, more) in
    (omega (arith, h, more), t.1 ∙ get_or-reverse fields n bit h ∙ get_or_default fields (length fields - 1 - n) bit 0 (omega (arith, h)) ∙ ap (λ i. get_or fields i 0) place)

module _ (fields : List ℕ) (k j byte bit : ℕ) (turn : StatusTurn fields k byte) (item : (k ≡ suc j) × (bit ≡ get_or fields j 0)) where
  pub turn_down : bit ≤ 1 → StatusTurn fields j (2 * byte + bit)
  unfolding all_bits byte_of
  turn_down h =
      let t : StatusTurn fields (suc j) byte = rw item.0 at turn in
      let front : drop j fields ≡ get_or fields j 0 ∷ drop (suc j) fields = drop-cons fields j 0 (omega (arith, t.within)) in
      let n : length fields - j ≡ suc (length fields - suc j) = omega (arith, t.within) in
      record {
        within = omega (arith, t.within);
        bits = rw (front, le-leb (get_or fields j 0) 1 (omega (arith, h, item.1))) t.bits;
        same = rw front (omega (arith, t.same, item.1));
        small = rw (n, pow-suc 2 (length fields - suc j)) (omega (arith, t.small, h));
      }

  pub turn_wrong : 1 < bit → None ≡ status_answer fields
  turn_wrong h = rw (not_true (all_bits fields) (λ e. omega (arith, h, item.1, bit_at fields j e (omega (arith, turn.within, item.0)))))
