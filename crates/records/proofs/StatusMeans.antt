-- What the status fields of a tick mean: its outputs, one by one.
-- Assumes nothing.
use mathlib.Core.Path.{◌≡◌, ap, ◌∙◌}
use mathlib.Core.Bool.{Bool}
use mathlib.Core.List.{List, [], ◌∷◌}
use Prim.Native.Nat.{ℕ, suc, ◌+◌, ◌*◌, ◌/◌, ◌%◌}
use native.Mathlib.Omega.{arith}
use Rattle.relay.specs.Outputs.{bit, general, output_byte}
use Rattle.relay.proofs.OutputLaws.{bit_at_most, output_bits}
use Rattle.records.specs.Status.{bits_of, status_of}

-- a bit, and then those of the number that the others are
bits_on : (n h : ℕ) (on : Bool) → bits_of (suc n) (bit on 1 + 2 * h) ≡ bit on 1 ∷ bits_of n h
bits_on n h on =
    let k = bit_at_most on 1 in
    let low : (bit on 1 + 2 * h) % 2 ≡ bit on 1 = omega arith in
    let rest : (bit on 1 + 2 * h) / 2 ≡ h = omega arith in
    rw (low, rest)

bits_last : (on : Bool) → bits_of 1 (bit on 1) ≡ bit on 1 ∷ []
bits_last on =
    let k = bit_at_most on 1 in
    let low : bit on 1 % 2 ≡ bit on 1 = omega arith in
    rw low

module _ (start1 start2 start3 trip1 trip2 trip3 : Bool) (block : ℕ) where
  abbrev start : Bool
  start = general start1 start2 start3 block

  abbrev trip : Bool
  trip = general trip1 trip2 trip3 block

  -- WHAT A VIEWER SEES: starts of L1, L2, L3, their trips, general start, general trip, each 1 where it is on
  pub status_of_outputs : status_of (output_byte start1 start2 start3 trip1 trip2 trip3 block)
      ≡ bit start1 1 ∷ bit start2 1 ∷ bit start3 1 ∷ bit trip1 1 ∷ bit trip2 1 ∷ bit trip3 1 ∷ bit start 1 ∷ bit trip 1 ∷ []
  status_of_outputs =
      ap status_of (output_bits start1 start2 start3 trip1 trip2 trip3 block)
      ∙ bits_on 7 _ start1
      ∙ ap (λ (bs : List ℕ). bit start1 1 ∷ bs) (bits_on 6 _ start2
      ∙ ap (λ (bs : List ℕ). bit start2 1 ∷ bs) (bits_on 5 _ start3
      ∙ ap (λ (bs : List ℕ). bit start3 1 ∷ bs) (bits_on 4 _ trip1
      ∙ ap (λ (bs : List ℕ). bit trip1 1 ∷ bs) (bits_on 3 _ trip2
      ∙ ap (λ (bs : List ℕ). bit trip2 1 ∷ bs) (bits_on 2 _ trip3
      ∙ ap (λ (bs : List ℕ). bit trip3 1 ∷ bs) (bits_on 1 _ start
      ∙ ap (λ (bs : List ℕ). bit start 1 ∷ bs) (bits_last trip)))))))
