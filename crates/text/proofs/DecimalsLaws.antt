-- A line of decimals: what is left of it gives the whole, how long it is, and that its numbers come back.
-- Assumes nothing.
use mathlib.Core.Path.{◌≡◌, refl, sym, ap, ◌∙◌}
use mathlib.Core.Bool.{true, cond}
use mathlib.Core.List.{List, [], ◌∷◌, ◌++◌}
use Prim.Native.Nat.{ℕ, suc, ◌+◌, ◌*◌, ◌≤◌, ◌<◌}
use native.Mathlib.Numerals.{add-one}
use native.Mathlib.Omega.{arith}
use lib.Dec.{eqb}
use lib.ListN.{length, get_or, set, drop, length-append, length-set, drop_of_length-le}
use lib.Seq.{sets, drop-cons, length-sets}
use Rattle.text.specs.Number.{decimal}
use Rattle.text.specs.Line.{cr, lf, comma, fits_in, right_shape, values_of, numbers_of}
use Rattle.text.specs.Decimals.{decimals, line_of}
use Rattle.text.specs.device.Calls.{Wrote}
use Rattle.text.proofs.StoreLaws.{sets_append}
use Rattle.text.proofs.DecimalLaws.{decimal_length, decimal_back}
use Rattle.text.proofs.ScanLaws.{field_closer, total, closer_suc}
use Rattle.text.proofs.ShapeLaws.{close_of, closing, closing_written, shape_most, written_right, written_numbers}

-- ---- the line from field k on

abbrev line_from : List ℕ → ℕ → List ℕ
line_from ns k = closing (decimals (drop k ns))

from_first : (ns : List ℕ) → 1 ≤ length ns → line_from ns 0 ≡ line_of ns
from_first [] some = absurd (omega arith)
from_first (n ∷ ns) some = closing_written (decimal n) (decimals ns)

close_decimals : (ns : List ℕ) → close_of (decimals ns) ≡ field_closer ns
unfolding field_closer
close_decimals [] = refl
close_decimals (n ∷ ns) = refl

module _ (ns : List ℕ) (k : ℕ) where
  abbrev digits_at : List ℕ
  digits_at = decimal (get_or ns k 0)

  abbrev closer_at : ℕ
  closer_at = cond (eqb (k + 1) (length ns)) cr comma

  from_field : k < length ns → line_from ns k ≡ digits_at ++ closer_at ∷ line_from ns (k + 1)
  unfolding closing
  from_field h = rw (drop-cons ns k 0 h, close_decimals (drop (suc k) ns), closer_suc ns k h, add-one k)

  from_end : length ns ≤ k → line_from ns k ≡ lf ∷ []
  unfolding closing
  from_end h = rw (drop_of_length-le ns h)

-- ---- a turn of the count, at field k: with `at` bytes for those before, what is left gives the whole

pub record FieldsCounted (ns : List ℕ) (k at : ℕ) : Type 0 where
  pub few : k ≤ length ns
  pub whole : at + length (line_from ns k) ≡ length (line_of ns)

module _ (ns : List ℕ) where
  pub counted_none : 1 ≤ length ns → FieldsCounted ns 0 0
  counted_none some = record { few = omega arith; whole = omega (arith, ap length (from_first ns some)) }

  module _ (k at : ℕ) (so_far : FieldsCounted ns k at) where
    pub counted_more : (next : ℕ) → k < length ns → next ≡ at + length (decimal (get_or ns k 0)) + 1 → FieldsCounted ns (k + 1) next
    counted_more next h e =
        let field = ap length (from_field ns k h) ∙ length-append (digits_at ns k) _ in
        record { few = omega arith; whole = omega (arith, field) }

    pub counted_all : length ns ≤ k → length (line_of ns) ≡ at + 1
    counted_all h = omega (arith, ap length (from_end ns k h))

-- ---- a turn of the writer, at field k and place at: what is left to write gives the whole

pub record FieldsWritten (before ns : List ℕ) (k at : ℕ) (out : List ℕ) : Type 0 where
  pub count : FieldsCounted ns k at
  pub long : length out ≡ length before
  pub whole : sets out at (line_from ns k) ≡ sets before 0 (line_of ns)

-- a decimal and the byte that closes it, then the rest
put_field : (ns : List ℕ) (k : ℕ) (out : List ℕ) (at : ℕ) → k < length ns
    → sets out at (line_from ns k)
    ≡ sets (set (sets out at (digits_at ns k)) (at + length (digits_at ns k)) (closer_at ns k)) (at + length (digits_at ns k) + 1) (line_from ns (k + 1))
put_field ns k out at h = rw (from_field ns k h, sets_append out at (digits_at ns k) _, add-one (at + length (digits_at ns k)))

module _ (before ns : List ℕ) where
  pub written_none : 1 ≤ length ns → FieldsWritten before ns 0 0 before
  written_none some = record { count = counted_none ns some; long = refl; whole = rw (from_first ns some) }

  module _ (k at : ℕ) (out : List ℕ) (so_far : FieldsWritten before ns k at out) where
    -- a decimal was written, and the byte that closes it
    pub written_more : (p closer : ℕ) (after : List ℕ) → k < length ns → Wrote out after at p (decimal (get_or ns k 0))
        → closer ≡ cond (eqb (k + 1) (length ns)) cr comma
        → FieldsWritten before ns (k + 1) (p + 1) (set after p closer)
    written_more p closer after h wrote closes =
        record {
          count = counted_more ns k at so_far.count (p + 1) h (omega arith);
          long = rw (wrote.output, length-set, length-sets) so_far.long;
          whole = rw (closes, wrote.output, wrote.place_after) (sym (put_field ns k out at h) ∙ so_far.whole);
        }

    -- and LF
    pub written_all : length ns ≤ k → Wrote before (set out at lf) 0 (at + 1) (line_of ns)
    written_all h = record { place_after = omega (arith, counted_all ns k at so_far.count h); output = rw (← so_far.whole, from_end ns k h) }

-- ---- how long a line is

closing_longest : (ns : List ℕ) → length (closing (decimals ns)) ≤ 21 * length ns + 1
unfolding closing
closing_longest [] = omega arith
closing_longest (n ∷ ns) = rw length-append (omega (arith, decimal_length 19 n, closing_longest ns))

-- at most 20 digits and what closes them, for each number, and LF
pub line_longest : (ns : List ℕ) → 1 ≤ length ns → length (line_of ns) ≤ 21 * length ns + 1
line_longest ns some = rw (← from_first ns some) (closing_longest ns)

-- ---- a line whose decimals fit is of right shape: its numbers come back, and the widths bound its length

values_back : (ns : List ℕ) → values_of (decimals ns) ≡ ns
values_back [] = refl
values_back (n ∷ ns) = rw (decimal_back n, values_back ns)

pub line_shaped : (ws ns : List ℕ) → 1 ≤ length ws → fits_in ws (decimals ns) ≡ true → right_shape ws (line_of ns) ≡ true
line_shaped [] ns some fits = absurd (omega arith)
line_shaped (w ∷ ws) ns some fits = written_right w ws (decimals ns) fits

pub line_numbers : (ws ns : List ℕ) → 1 ≤ length ws → fits_in ws (decimals ns) ≡ true → numbers_of (line_of ns) ≡ ns
line_numbers [] ns some fits = absurd (omega arith)
line_numbers (w ∷ ws) ns some fits = written_numbers w ws (decimals ns) fits ∙ values_back ns

pub line_most : (ws ns : List ℕ) → 1 ≤ length ws → fits_in ws (decimals ns) ≡ true → length (line_of ns) ≤ total ws + length ws + 1
line_most ws ns some fits = shape_most ws (line_of ns) some (line_shaped ws ns some fits)
