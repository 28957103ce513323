-- The scan of a line of numbers: each field is the digits that stand there, closed by one byte, CR after the last
-- and a comma after any other. `ShapeLaws` says that it finds exactly the lines of right shape.
-- Assumes nothing.
use mathlib.Core.Path.{◌≡◌, sym, ap, ◌∙◌}
use mathlib.Core.Bool.{Bool, true, cond, ◌&&◌}
use mathlib.Core.List.{List, [], ◌∷◌}
use Prim.Native.Nat.{ℕ, zero, suc, ◌+◌, ◌*◌, ◌^◌, ◌≤◌, ◌<◌}
use native.Mathlib.Numerals.{add-one}
use native.Mathlib.Omega.{arith}
use lib.Dec.{leb, eqb, lit<}
use lib.ListN.{length, get_or, drop, length-drop}
use lib.Seq.{drop-cons, drop-length}
use borrow.Author.Tests.{leb-true, eqb-true, eqb-false}
use Rattle.text.specs.Number.{leading, value_of}
use Rattle.text.specs.Line.{cr, comma, is_lf}
use Rattle.checks.proofs.Cases.{by_cond}
use Rattle.checks.proofs.Tests.{both_true}
use Rattle.text.proofs.DigitLaws.{leading_length, value_small}

-- the byte that closes a field, by the widths of those after it
unfoldable pub field_closer : List ℕ → ℕ
field_closer [] = cr
field_closer (w ∷ ws) = comma

-- whether the scan comes to the end of the line
unfoldable pub scans : List ℕ → List ℕ → Bool
scans [] s = is_lf s
scans (w ∷ ws) s =
    leb 1 (length (leading w s))
    && (eqb (get_or s (length (leading w s)) 0) (field_closer ws) && scans ws (drop (length (leading w s) + 1) s))

-- the numbers that it finds
unfoldable pub scanned : List ℕ → List ℕ → List ℕ
scanned [] s = []
scanned (w ∷ ws) s = value_of (leading w s) ∷ scanned ws (drop (length (leading w s) + 1) s)

-- the sum of the widths
abbrev pub total : List ℕ → ℕ
total [] = 0
total (w ∷ ws) = w + total ws

-- ---- what the scan says of the first field

module _ (w : ℕ) (ws s : List ℕ) (h : scans (w ∷ ws) s ≡ true) where
  abbrev count : ℕ
  count = length (leading w s)

  pub field_some : 1 ≤ count
  unfolding scans
  field_some = leb-true 1 count (both_true (leb 1 count) _ h).0

  pub field_closed : get_or s count 0 ≡ field_closer ws
  unfolding scans
  field_closed = eqb-true (get_or s count 0) (field_closer ws) (both_true (eqb (get_or s count 0) (field_closer ws)) _ (both_true (leb 1 count) _ h).1).0

  pub field_rest : scans ws (drop (count + 1) s) ≡ true
  unfolding scans
  field_rest = (both_true (eqb (get_or s count 0) (field_closer ws)) _ (both_true (leb 1 count) _ h).1).1

pub scan_lf : (s : List ℕ) → scans [] s ≡ true → is_lf s ≡ true
unfolding scans
scan_lf s h = h

pub lf_length : (s : List ℕ) → is_lf s ≡ true → length s ≡ 1
unfolding is_lf
lf_length s h = eqb-true (length s) 1 (both_true (eqb (length s) 1) _ h).0

-- ---- how long a scanned line is

pub scan_least : (ws s : List ℕ) → scans ws s ≡ true → 2 * length ws + 1 ≤ length s
scan_least [] s h = omega (arith, lf_length s (scan_lf s h))
scan_least (w ∷ ws) s h = omega (arith, field_some w ws s h, scan_least ws _ (field_rest w ws s h), length-drop (length (leading w s) + 1) s)

pub scan_most : (ws s : List ℕ) → scans ws s ≡ true → length s ≤ total ws + length ws + 1
scan_most [] s h = omega (arith, lf_length s (scan_lf s h))
scan_most (w ∷ ws) s h =
    omega (arith, leading_length w s, scan_most ws _ (field_rest w ws s h), length-drop (length (leading w s) + 1) s)

-- ---- how large its numbers are

pub numbers_small : (ws s : List ℕ) (k : ℕ) → get_or (scanned ws s) k 0 < 10 ^ get_or ws k 0
unfolding scanned
numbers_small [] s zero = lit< tt
numbers_small [] s (suc k) = lit< tt
numbers_small (w ∷ ws) s zero = value_small w s
numbers_small (w ∷ ws) s (suc k) = numbers_small ws (drop (length (leading w s) + 1) s) k

-- the byte that closes field k
module _ (ws : List ℕ) (k : ℕ) (h : k < length ws) where
  pub closer_at_law : field_closer (drop (k + 1) ws) ≡ cond (eqb (k + 1) (length ws)) cr comma
  unfolding field_closer
  closer_at_law =
      by_cond (λ (b : ℕ). field_closer (drop (k + 1) ws) ≡ b) (eqb (k + 1) (length ws)) cr comma
      (λ e. let z : drop (k + 1) ws ≡ [] = rw (eqb-true (k + 1) (length ws) e) (drop-length ws) in rw z)
      (λ e.
      let n : k + 1 < length ws = omega (arith, eqb-false (k + 1) (length ws) e) in
      rw (drop-cons ws (k + 1) 0 n))

  pub closer_suc : field_closer (drop (suc k) ws) ≡ cond (eqb (k + 1) (length ws)) cr comma
  closer_suc = ap (λ (n : ℕ). field_closer (drop n ws)) (sym (add-one k)) ∙ closer_at_law
