-- How large the constants of the curves and their times are.
-- Assumes nothing.
use Prim.Native.Nat.{ℕ, ◌+◌, ◌-◌, ◌*◌, ◌^◌, ◌≤◌, ◌<◌}
use native.Mathlib.Nat.{eq-zero-or-pos, le_trans, mul-le-mul}
use native.Mathlib.Omega.{arith}
use mathlib.Core.Bool.{Bool, true, false, cond, ◌&&◌, and-false, false≢true}
use mathlib.Core.Logic.{⊎_elim}
use mathlib.Core.Path.{◌≡◌, refl, sym, ◌∙◌}
use borrow.Author.Tests.{leb-true, le-leb, lt-leb}
use lib.Dec.{leb}
use Rattle.std.specs.Prelude.{Option, Some, None, MatchOption}
use Rattle.checks.specs.Range.{in_range}
use Rattle.checks.proofs.Tests.{both_true, in_range_law, is_in_range, below_range, above_range}
use Rattle.powers.proofs.PowerRule.{X_at_most, X_at_least}
use Rattle.powers.proofs.Tables.{every_below, below_passes}
use Rattle.powers.specs.Power.{X}
use Rattle.curve.specs.declared.constants.Power.{Power}
use Rattle.curve.specs.declared.constants.Power.TheVariants.{Fiftieth, First, Second}
use Rattle.curve.specs.declared.constants.Constants.{Constants}
use Rattle.curve.specs.Constants.{constants_of, curve_table, numbers_in}
use Rattle.curve.specs.Time.{has_operate_time, has_reset_time, inverse_part, operate_time, reset_by, reset_time}
use Rattle.curve.proofs.RoundingLaws.{rounded_up_at_least, rounded_up_at_most}

-- ---- the constants

-- the smallest k with which a curve of that power takes 100 microseconds or more at every ratio
abbrev pub least_k : Power → ℕ
least_k Fiftieth = 1
least_k First = 19
least_k Second = 399

pub record Moderate (row : Constants) : Type 0 where
  pub k_low : least_k row.a ≤ row.k
  pub k : row.k ≤ 10000000
  pub c : row.c ≤ 10000000
  pub kr : (kr : ℕ) → row.kr ≡ Some kr → kr ≤ 10000000

-- a test on kr, where there is one
abbrev pub kr_passes : (ℕ → Bool) → Bool → Option ℕ → Bool
kr_passes test none None = none
kr_passes test none (Some kr) = test kr

-- the same as a test
abbrev moderate : Constants → Bool
moderate row =
    (in_range (least_k row.a) 10000000 row.k && leb row.c 10000000) && kr_passes (λ kr. leb kr 10000000) true row.kr

moderate_means : (row : Constants) → moderate row ≡ true → Moderate row
moderate_means row e =
    let all = both_true (in_range (least_k row.a) 10000000 row.k && leb row.c 10000000) (kr_passes (λ kr. leb kr 10000000) true row.kr) e in
    let front = both_true (in_range (least_k row.a) 10000000 row.k) (leb row.c 10000000) all.0 in
    let ks = in_range_law (least_k row.a) 10000000 row.k front.0 in
    record { k_low = ks.0; k = ks.1; c = leb-true row.c 10000000 front.1; kr = λ kr is. leb-true kr 10000000 (rw is at all.1) }

-- a test that passes on so many rows, from an operation on, computed over them
pub row_passes : (test : Constants → Bool) (first rows : ℕ) → every_below (λ i. test (numbers_in curve_table (first + i))) rows ≡ true → (op : ℕ) → first ≤ op → op < first + rows → test (constants_of op) ≡ true
unfolding constants_of
row_passes test first rows e op low high =
    let place : first + (op - first) ≡ op = omega arith in
    rw place at (below_passes (λ i. test (numbers_in curve_table (first + i))) rows e (op - first) (omega arith))

pub constants_moderate : (op : ℕ) → 2 ≤ op → op ≤ 12 → Moderate (constants_of op)
constants_moderate op low high = moderate_means (constants_of op) (row_passes moderate 2 11 refl op low (omega arith))

-- the ANSI curves have a kr, above 0
kr_above_0 : (op : ℕ) → 6 ≤ op → op ≤ 12 → kr_passes (λ kr. leb 1 kr) false (constants_of op).kr ≡ true
kr_above_0 op low high = row_passes (λ row. kr_passes (λ kr. leb 1 kr) false row.kr) 6 7 refl op low (omega arith)

-- the IEC curves have none
no_kr_to_5 : (op : ℕ) → 2 ≤ op → op ≤ 5 → kr_passes (λ kr. false) true (constants_of op).kr ≡ true
no_kr_to_5 op low high = row_passes (λ row. kr_passes (λ kr. false) true row.kr) 2 4 refl op low (omega arith)

-- ---- the times

pub square_above : (m : ℕ) → 101 ≤ m → m ≤ 2000 → (10201 ≤ m * m) × (m * m ≤ 4000000)
square_above m low high = (mul-le-mul low low, mul-le-mul high high)

pub square_below : (m : ℕ) → m ≤ 99 → m * m ≤ 9801
square_below m h = mul-le-mul h h

inverse_at_least : (a : Power) (k m : ℕ) → least_k a ≤ k → 101 ≤ m → m ≤ 2000 → 100 ≤ inverse_part a k m
inverse_at_least Fiftieth k m h low high =
    rounded_up_at_least 100 _ _ (omega arith) (omega (arith, mul-le-mul h (X_at_least m low high)))
inverse_at_least First k m h low high = rounded_up_at_least 100 _ _ (omega arith) (omega arith)
inverse_at_least Second k m h low high =
    let square = square_above m low high in
    rounded_up_at_least 100 _ _ (omega arith) (omega arith)

pub inverse_at_most : (a : Power) (k m : ℕ) → k ≤ 10000000 → inverse_part a k m ≤ 10 ^ 17 + 1
inverse_at_most Fiftieth k m h = le_trans (rounded_up_at_most _ _) (omega (arith, mul-le-mul h (X_at_most m)))
inverse_at_most First k m h = le_trans (rounded_up_at_most _ _) (omega arith)
inverse_at_most Second k m h = le_trans (rounded_up_at_most _ _) (omega arith)

-- ---- where there is a time

pub operate_time_by_parts : (op m : ℕ) → 2 ≤ op → op ≤ 12 → 101 ≤ m → m ≤ 2000 → operate_time op m ≡ (constants_of op).c + inverse_part (constants_of op).a (constants_of op).k m
unfolding operate_time
operate_time_by_parts op m a b c d = rw (is_in_range 2 12 op a b, is_in_range 101 2000 m c d)

reset_time_by_parts : (op m : ℕ) → 6 ≤ op → op ≤ 12 → m ≤ 99 → reset_time op m ≡ reset_by (constants_of op).kr m
unfolding reset_time
reset_time_by_parts op m a b c = rw (is_in_range 6 12 op a b, le-leb m 99 c)

-- ---- where there is none

pub no_operate_time_by_op : (op m : ℕ) → in_range 2 12 op ≡ false → operate_time op m ≡ 0
unfolding operate_time
no_operate_time_by_op op m e = rw e

no_operate_time_by_ratio : (op m : ℕ) → in_range 101 2000 m ≡ false → operate_time op m ≡ 0
unfolding operate_time
no_operate_time_by_ratio op m e = rw (e, and-false (in_range 2 12 op))

pub no_operate_time_to_100 : (op m : ℕ) → m ≤ 100 → operate_time op m ≡ 0
no_operate_time_to_100 op m h = no_operate_time_by_ratio op m (below_range 101 2000 m (omega arith))

pub no_operate_time_above_2000 : (op m : ℕ) → 2000 < m → operate_time op m ≡ 0
no_operate_time_above_2000 op m h = no_operate_time_by_ratio op m (above_range 101 2000 m h)

pub no_reset_time_by_op : (op m : ℕ) → in_range 6 12 op ≡ false → reset_time op m ≡ 0
unfolding reset_time
no_reset_time_by_op op m e = rw e

pub no_reset_time_from_100 : (op m : ℕ) → 100 ≤ m → reset_time op m ≡ 0
unfolding reset_time
no_reset_time_from_100 op m h = rw (lt-leb m 99 (omega arith), and-false (in_range 6 12 op))

no_reset_by : (kr : Option ℕ) (m : ℕ) → kr_passes (λ kr. false) true kr ≡ true → reset_by kr m ≡ 0
no_reset_by None m e = refl
no_reset_by (Some kr) m e = absurd (false≢true e)

-- the kr of an operation, where it has one
abbrev pub kr_of : ℕ → Option ℕ
kr_of op = cond (in_range 2 12 op) (constants_of op).kr None

-- tells whether it has a reset time
pub reset_time_by_kr : (op m : ℕ) → m ≤ 99 → reset_time op m ≡ reset_by (kr_of op) m
reset_time_by_kr op m h = go (in_range 2 12 op) refl
  where
    go : (curve : Bool) → in_range 2 12 op ≡ curve → reset_time op m ≡ reset_by (cond curve (constants_of op).kr None) m
    go true e =
        let (low, high) = in_range_law 2 12 op e in
        ⊎_elim
        (λ iec. no_reset_time_by_op op m (below_range 6 12 op (omega (arith, iec))) ∙ sym (no_reset_by (constants_of op).kr m (no_kr_to_5 op low (omega (arith, iec)))))
        (λ ansi. reset_time_by_parts op m (omega (arith, ansi)) high h)
        (eq-zero-or-pos (op - 5))
    go false e = no_reset_time_by_op op m (not_ansi (in_range 6 12 op) refl)
      where
        not_ansi : (ansi : Bool) → in_range 6 12 op ≡ ansi → in_range 6 12 op ≡ false
        not_ansi true a = let (low, high) = in_range_law 6 12 op a in absurd (false≢true (sym e ∙ is_in_range 2 12 op (omega arith) high))
        not_ansi false a = a

-- ---- by what is found for an operation

-- a row found
pub record FoundRow (op : ℕ) (row : Constants) : Type 0 where
  pub low : 2 ≤ op
  pub high : op ≤ 12
  pub is : row ≡ constants_of op
  pub moderate : Moderate row

cond_some : {A : Type 0} (b : Bool) (x y : A) → Some y ≡ cond b (Some x) None → (b ≡ true) × (y ≡ x)
cond_some true x y e = (refl, cc)
cond_some false x y e = absurd cc

cond_none : {A : Type 0} (b : Bool) (x : A) → None ≡ cond b (Some x) None → b ≡ false
cond_none true x e = absurd cc
cond_none false x e = refl

pub found_row : (op : ℕ) (row : Constants) → Some row ≡ cond (in_range 2 12 op) (Some (constants_of op)) None → FoundRow op row
found_row op row e =
    let (there, is) = cond_some (in_range 2 12 op) (constants_of op) row e in
    let (low, high) = in_range_law 2 12 op there in
    record { low = low; high = high; is = is; moderate = rw is (constants_moderate op low high) }

pub operate_time_by_row : (op m : ℕ) (row : Constants) → Some row ≡ cond (in_range 2 12 op) (Some (constants_of op)) None
    → 101 ≤ m → m ≤ 2000 → operate_time op m ≡ row.c + inverse_part row.a row.k m
operate_time_by_row op m row e low high =
    let found = found_row op row e in
    rw found.is (operate_time_by_parts op m found.low found.high low high)

pub no_operate_time_by_row : (op m : ℕ) → None ≡ cond (in_range 2 12 op) (Some (constants_of op)) None → operate_time op m ≡ 0
no_operate_time_by_row op m e = no_operate_time_by_op op m (cond_none (in_range 2 12 op) (constants_of op) e)

-- what the check of `operate_time` goes by
pub ruleset operate_laws = (operate_time_by_row, no_operate_time_by_row, no_operate_time_to_100, no_operate_time_above_2000)

-- and its kr
pub found_kr : (op : ℕ) (found : Option Constants) (kr : Option ℕ) → found ≡ cond (in_range 2 12 op) (Some (constants_of op)) None
    → MatchOption found (kr ≡ None) (λ row. kr ≡ row.kr) → kr ≡ kr_of op
found_kr op None kr e is = rw (cond_none (in_range 2 12 op) (constants_of op) e) is
found_kr op (Some row) kr e is = let (curve, same) = cond_some (in_range 2 12 op) (constants_of op) row e in rw (curve, ← same) is

pub kr_at_most : (op kr : ℕ) → Some kr ≡ kr_of op → kr ≤ 10000000
kr_at_most op kr e = go (in_range 2 12 op) refl
  where
    go : (curve : Bool) → in_range 2 12 op ≡ curve → kr ≤ 10000000
    go true t =
        let (low, high) = in_range_law 2 12 op t in
        (constants_moderate op low high).kr kr (sym (rw t at e))
    go false t = absurd (let none : Some kr ≡ None = rw t at e in cc)

-- what the check of `reset_time` goes by
pub ruleset reset_laws = (found_kr, reset_time_by_kr, no_reset_time_from_100)

-- k x X(m) is at most 10 ^ 17
pub product_at_most : (k x m : ℕ) → k ≤ 10000000 → x ≡ cond (in_range 101 2000 m) (X m) 0 → 101 ≤ m → m ≤ 2000 → k * x ≤ 10 ^ 17
product_at_most k x m h e low high = mul-le-mul h (let x : x ≤ 10000000000 = rw (e, is_in_range 101 2000 m low high) (X_at_most m) in x)

-- what the check of `inverse_part` goes by
pub ruleset inverse_laws = (product_at_most, square_above, is_in_range)

-- ---- how large they are

pub operate_time_at_least : (op m : ℕ) → has_operate_time op m ≡ true → 100 ≤ operate_time op m
operate_time_at_least op m e =
    let t = both_true (in_range 2 12 op) (in_range 101 2000 m) e in
    let ops = in_range_law 2 12 op t.0 in
    let ratios = in_range_law 101 2000 m t.1 in
    let row = constants_moderate op ops.0 ops.1 in
    rw (operate_time_by_parts op m ops.0 ops.1 ratios.0 ratios.1)
    (omega (arith, inverse_at_least (constants_of op).a (constants_of op).k m row.k_low ratios.0 ratios.1))

reset_by_at_least : (kr : Option ℕ) (m : ℕ) → m ≤ 99 → kr_passes (λ kr. leb 1 kr) false kr ≡ true → 100 ≤ reset_by kr m
reset_by_at_least None m h e = absurd (false≢true e)
reset_by_at_least (Some kr) m h e =
    let square = square_below m h in
    let above = leb-true 1 kr e in
    rounded_up_at_least 100 _ _ (omega arith) (omega arith)

pub reset_time_at_least : (op m : ℕ) → has_reset_time op m ≡ true → 100 ≤ reset_time op m
reset_time_at_least op m e =
    let t = both_true (in_range 6 12 op) (leb m 99) e in
    let ops = in_range_law 6 12 op t.0 in
    let ratio = leb-true m 99 t.1 in
    rw (reset_time_by_parts op m ops.0 ops.1 ratio)
    (reset_by_at_least (constants_of op).kr m ratio (kr_above_0 op ops.0 ops.1))
