-- The least gain of all curves from a ratio on: from 101, the lowest that has one (02, E10), and from 110 (E8).
-- Assumes nothing.
use Prim.Native.Nat.{ℕ, ◌+◌, ◌*◌, ◌/◌, ◌^◌, ◌≤◌, ◌<◌}
use native.Mathlib.Nat.{add-le-add, div-mul-le_self, le-div_iff_mul-le, le_refl, le_trans, mul_comm, mul-le-mul_left}
use native.Mathlib.Omega.{arith}
use mathlib.Core.Bool.{Bool, true}
use mathlib.Core.Path.{◌≡◌, refl}
use borrow.Author.Tests.{leb-true}
use lib.Dec.{lit≤, leb}
use Rattle.checks.proofs.Tests.{is_in_range}
use Rattle.powers.specs.Power.{X}
use Rattle.powers.proofs.PowerRule.{X_within}
use Rattle.powers.proofs.Tables.{every_below}
use Rattle.curve.specs.declared.constants.Power.{Power}
use Rattle.curve.specs.declared.constants.Power.TheVariants.{Fiftieth, First, Second}
use Rattle.curve.specs.declared.constants.Constants.{Constants}
use Rattle.curve.specs.Constants.{constants_of, curve_table, numbers_in}
use Rattle.curve.specs.Gain.{gain_of}
use Rattle.curve.specs.Rounding.{rounded_up}
use Rattle.curve.specs.Time.{has_operate_time, inverse_part, operate_time}
use Rattle.curve.proofs.GainLaws.{gain_by_time}
use Rattle.curve.proofs.OrderLaws.{gain_never_falls}
use Rattle.curve.proofs.RoundingLaws.{rounded_up_order}
use Rattle.curve.proofs.TimeLaws.{row_passes, operate_time_by_parts, operate_time_at_least}

-- ---- the statement

-- on every curve a gain at the ratio `low` or more is at least `least`, and IEC LongInv has just that at `low`
pub record LeastFrom (low least : ℕ) : Type 0 where
  pub every : (op m : ℕ) → 2 ≤ op → op ≤ 12 → low ≤ m → m ≤ 2000 → least ≤ gain_of op m
  pub exactly : gain_of 5 low ≡ least

-- ---- how long the curves take at a ratio

-- the most that a curve adds to c at m, where X(m) is at most x: X itself is not computed
abbrev part_at_most : ℕ → ℕ → Power → ℕ → ℕ
part_at_most m x Fiftieth k = rounded_up (k * x) 10000
part_at_most m x First k = inverse_part First k m
part_at_most m x Second k = inverse_part Second k m

-- whether a curve with such constants takes at most the longest time that has so large a gain
abbrev quick_enough : ℕ → ℕ → ℕ → Constants → Bool
quick_enough m x least row = leb (row.c + part_at_most m x row.a row.k) (10 ^ 14 / least)

module _ (low x : ℕ) (from_101 : 101 ≤ low) (to_2000 : low ≤ 2000) (within : X low ≤ x) where
  part_within : (a : Power) (k : ℕ) → inverse_part a k low ≤ part_at_most low x a k
  part_within Fiftieth k = rounded_up_order _ _ _ _ (omega arith) (mul-le-mul_left k within) (le_refl 10000)
  part_within First k = le_refl _
  part_within Second k = le_refl _

  -- one test, computed over the eleven rows, tells the least gain at the ratio, and the order of the gains that from it on
  least_from : (least : ℕ) → every_below (λ i. quick_enough low x least (numbers_in curve_table (2 + i))) 11 ≡ true → gain_of 5 low ≡ least → LeastFrom low least
  least_from least quick just = record { every = every; exactly = just }
    where
      time : (op : ℕ) → 2 ≤ op → op ≤ 12 → operate_time op low ≤ 10 ^ 14 / least
      time op first last =
          let row = constants_of op in
          rw (operate_time_by_parts op low first last from_101 to_2000)
          (le_trans (add-le-add (le_refl row.c) (part_within row.a row.k)) (leb-true _ (10 ^ 14 / least) (row_passes (quick_enough low x least) 2 11 quick op first (omega arith))))

      there : (op : ℕ) → 2 ≤ op → op ≤ 12 → least ≤ gain_of op low
      there op first last =
          let given : has_operate_time op low ≡ true = rw (is_in_range 2 12 op first last, is_in_range 101 2000 low from_101 to_2000) refl in
          let shares : least * (10 ^ 14 / least) ≤ 10 ^ 14 = rw (mul_comm least (10 ^ 14 / least)) (div-mul-le_self (10 ^ 14) least) in
          let share : least ≤ 10 ^ 14 / operate_time op low =
          (le-div_iff_mul-le (le_trans (lit≤ tt) (operate_time_at_least op low given))).1 (le_trans (mul-le-mul_left least (time op first last)) shares) in
          rw (gain_by_time op low) at share

      every : (op m : ℕ) → 2 ≤ op → op ≤ 12 → low ≤ m → m ≤ 2000 → least ≤ gain_of op m
      every op m first last above most = le_trans (there op first last) (gain_never_falls op low m above most)

-- ---- the two ratios

-- "the smallest gain on any curve there is 8333, for IEC LongInv at m 101" (02, E10)
abbrev pub least_gain : ℕ
least_gain = 8333

pub least_gain_law : LeastFrom 101 least_gain
unfolding gain_of operate_time constants_of rounded_up
least_gain_law =
    least_from 101 6000000000 (omega arith) (omega arith) (X_within 101 6000000000 (omega arith) (lit≤ tt)) least_gain refl refl

-- so there is one to divide by
pub gain_above_0 : (op m : ℕ) → 2 ≤ op → op ≤ 12 → 101 ≤ m → m ≤ 2000 → 0 < gain_of op m
gain_above_0 op m first last low high = le_trans (lit≤ tt) (least_gain_law.every op m first last low high)

abbrev pub least_gain_from_110 : ℕ
least_gain_from_110 = 83333

pub least_gain_from_110_law : LeastFrom 110 least_gain_from_110
unfolding gain_of operate_time constants_of rounded_up
least_gain_from_110_law =
    least_from 110 600000000 (omega arith) (omega arith) (X_within 110 600000000 (omega arith) (lit≤ tt)) least_gain_from_110 refl refl
