-- What two relays are refused with, from what each is, and what it tells of them where they are not.
-- Assumes nothing.
use Prim.Native.Nat.{ℕ, ◌<◌}
use native.Mathlib.Omega.{arith}
use mathlib.Core.Bool.{Bool, true, false, cond, ◌&&◌, false≢true}
use mathlib.Core.List.{List, [], ◌∷◌}
use mathlib.Core.Logic.{◌⊎◌, inl, inr}
use mathlib.Core.Path.{◌≡◌, refl, sym, ◌∙◌, ap}
use borrow.Author.Tests.{leb-true, le-leb, lt-leb, eqb-true, eqb-false, eq-eqb, ltb-true, ne_eqb}
use lib.Dec.{leb, ltb, eqb}
use Rattle.std.specs.Prelude.{Some, None}
use Rattle.checks.specs.Checks.{Check, check, lowest}
use Rattle.checks.proofs.LowestLaws.{rising, IsLowest, lowest_is_least}
use Rattle.checks.proofs.PassedLaws.{all_passed}
use Rattle.checks.proofs.Tests.{both_true, is_in_range}
use Rattle.phase.specs.declared.settings.Settings.{Settings}
use Rattle.phase.proofs.Accepted.{settings_passed}
use Rattle.grading.specs.declared.refusal.Refusal.{Refusal}
use Rattle.grading.specs.declared.refusal.Relay.TheVariants.{Upstream, Downstream}
use Rattle.grading.specs.Refusal.{refusal_of, first_refusal, graded_checks, in_turn, pair_refusal}
use Rattle.grading.specs.Refusals.{not_graded}
use Rattle.grading.specs.device.Lower.{lower_of}
use Rattle.grading.specs.device.Ready.{Trips, Pair}

-- ---- from what each is

-- the checks of both have the same numbers
abbrev same_numbers : List Check → List Check → Bool
same_numbers [] [] = true
same_numbers [] (d ∷ ds) = false
same_numbers (u ∷ us) [] = false
same_numbers (u ∷ us) (d ∷ ds) = eqb u.number d.number && same_numbers us ds

-- no number, or one above `last`
abbrev Above : ℕ → ℕ → Type 0
Above last n = (n ≡ 0) ⊎ (last < n)

one_above : (last n rest : ℕ) (passes : Bool) → last < n → Above n rest → Above last (cond passes rest n)
one_above last n rest true h (inl e) = inl e
one_above last n rest true h (inr a) = inr (omega arith)
one_above last n rest false h a = inr h

first_above : (last : ℕ) (checks : List Check) → rising last checks ≡ true → Above last (lowest checks)
first_above last [] rises = inl refl
first_above last (c ∷ checks) rises =
    let (above, rise) = both_true (ltb last c.number) (rising c.number checks) rises in
    one_above last c.number (lowest checks) c.passes (ltb-true last c.number above) (first_above c.number checks rise)

-- one check of each in front, which have the number n
in_front : (n a b rest : ℕ) (u d : Bool) (others : Refusal) → 0 < n → Above n a → Above n b → others ≡ lower_of a b rest → cond u (cond d others (refusal_of (Some Downstream) n)) (refusal_of (Some Upstream) n) ≡ lower_of (cond u a n) (cond d b n) rest
in_front n a b rest true true others some x y e = e
in_front n a b rest true false others some (inl z) y e = rw (z, ne_eqb n 0 (λ k. omega arith))
in_front n a b rest true false others some (inr h) y e =
    rw (ne_eqb a 0 (λ k. omega arith), ne_eqb n 0 (λ k. omega arith), lt-leb a n h)
in_front n a b rest false true others some x (inl z) e = rw (z, ne_eqb n 0 (λ k. omega arith))
in_front n a b rest false true others some x (inr h) e =
    rw (ne_eqb b 0 (λ k. omega arith), ne_eqb n 0 (λ k. omega arith), le-leb n b (omega arith))
in_front n a b rest false false others some x y e = rw (ne_eqb n 0 (λ k. omega arith), le-leb n n (omega arith))

each_in_turn : (last : ℕ) (us ds : List Check) (rest : ℕ) → rising last us ≡ true → rising last ds ≡ true → same_numbers us ds ≡ true → first_refusal (in_turn us ds) (refusal_of None rest) ≡ lower_of (lowest us) (lowest ds) rest
each_in_turn last [] [] rest rise rise' same = refl
each_in_turn last [] (d ∷ ds) rest rise rise' same = absurd (false≢true same)
each_in_turn last (u ∷ us) [] rest rise rise' same = absurd (false≢true same)
each_in_turn last (u ∷ us) (d ∷ ds) rest rise rise' same =
    let (above, others) = both_true (ltb last u.number) (rising u.number us) rise in
    let (above', others') = both_true (ltb last d.number) (rising d.number ds) rise' in
    let (number, numbers) = both_true (eqb u.number d.number) (same_numbers us ds) same in
    let one : u.number ≡ d.number = eqb-true u.number d.number number in
    let there : rising u.number ds ≡ true = rw one others' in
    rw (sym one)
    (in_front u.number (lowest us) (lowest ds) rest u.passes d.passes (first_refusal (in_turn us ds) (refusal_of None rest))
    (omega (arith, ltb-true last u.number above))
    (first_above u.number us others)
    (first_above u.number ds there)
    (each_in_turn u.number us ds rest others there numbers))

pub refused_by_each : (upstream downstream : Settings) (rest : ℕ) → pair_refusal upstream downstream rest ≡ lower_of (lowest (graded_checks upstream)) (lowest (graded_checks downstream)) rest
unfolding pair_refusal
refused_by_each upstream downstream rest = each_in_turn 0 (graded_checks upstream) (graded_checks downstream) rest refl refl refl

-- and what each is refused with is the lowest number that applies to it
pub graded_refusal_lowest : (settings : Settings) → IsLowest (lowest (graded_checks settings)) (graded_checks settings)
graded_refusal_lowest settings = lowest_is_least (graded_checks settings) refl

-- ---- what they tell where they are not refused

none_lower : (a b rest : ℕ) → (lower_of a b rest).number ≡ 0 → (a ≡ 0) × (b ≡ 0) × (rest ≡ 0)
none_lower a b rest = go (eqb a 0) (eqb b 0) (leb a b) refl refl
  where
    go : (x y z : Bool) → eqb a 0 ≡ x → eqb b 0 ≡ y → (cond x (cond y (refusal_of None rest) (refusal_of (Some Downstream) b)) (cond y (refusal_of (Some Upstream) a) (cond z (refusal_of (Some Upstream) a) (refusal_of (Some Downstream) b)))).number ≡ 0 → (a ≡ 0) × (b ≡ 0) × (rest ≡ 0)
    go true true z ea eb e = (eqb-true a 0 ea, eqb-true b 0 eb, e)
    go true false z ea eb e = absurd (eqb-false b 0 eb e)
    go false true z ea eb e = absurd (eqb-false a 0 ea e)
    go false false true ea eb e = absurd (eqb-false a 0 ea e)
    go false false false ea eb e = absurd (eqb-false b 0 eb e)

graded_passed : (settings : Settings) → lowest (graded_checks settings) ≡ 0 → Trips settings
graded_passed settings e =
    let (range, own) = settings_passed settings _ e in
    let (graded, none) = (all_passed (check (leb 2 settings.operation && eqb settings.start_only 0) not_graded ∷ []) 0 refl own).0 in
    let (curve, off) = both_true (leb 2 settings.operation) (eqb settings.start_only 0) graded in
    record { range = range; curve = leb-true 2 settings.operation curve; off = eqb-true settings.start_only 0 off }

pub pair_passed : (upstream downstream : Settings) (rest : ℕ) → (pair_refusal upstream downstream rest).number ≡ 0 → Pair upstream downstream × (rest ≡ 0)
pair_passed upstream downstream rest e =
    let (above, below, own) = none_lower _ _ rest (ap (λ (r : Refusal). r.number) (sym (refused_by_each upstream downstream rest)) ∙ e) in
    (record { above = graded_passed upstream above; below = graded_passed downstream below }, own)

-- and such relays are not
trips_allowed : (settings : Settings) → Trips settings → lowest (graded_checks settings) ≡ 0
trips_allowed settings trips =
    let range = trips.range in
    rw (is_in_range 0 12 settings.operation (omega arith) range.operation, is_in_range 10 3000 settings.start_current range.start_low range.start_high, is_in_range 5 1500 settings.time_multiplier range.multiplier_low range.multiplier_high, is_in_range 40 60000 settings.minimum_delay range.minimum_low range.minimum_high, is_in_range 40 60000 settings.definite_delay range.definite_low range.definite_high, is_in_range 60 60000 settings.reset_time range.reset_low range.reset_high, is_in_range 0 1 settings.start_only (omega arith) range.only, le-leb 2 settings.operation trips.curve, eq-eqb settings.start_only 0 trips.off)

pub pair_allowed : (upstream downstream : Settings) (rest : ℕ) → Pair upstream downstream → pair_refusal upstream downstream rest ≡ refusal_of None rest
pair_allowed upstream downstream rest pair =
    refused_by_each upstream downstream rest ∙ rw (trips_allowed upstream pair.above, trips_allowed downstream pair.below)
