-- `records::record_row::field_numbers` meets its contract: the numbers fit, so that the timestamp does.
-- Assumes nothing.
use mathlib.Core.Path.{◌≡◌, ap}
use mathlib.Core.List.{List, [], ◌∷◌}
use Prim.Native.Nat.{ℕ, ◌/◌, ◌%◌}
use native.Mathlib.Omega.{arith}
use Rattle.records.specs.Status.{status_of}
use Rattle.records.specs.RecordRow.{timestamp}
use Rattle.records.proofs.WriterLaws.{fits}
use Rattle.records.proofs.record_row.field_numbers.Goals as goal

pub overflow_sub-result : goal.overflow_sub-result
overflow_sub-result c = omega (arith, (fits c.args.x c.requires).some)

pub overflow_mul-result : goal.overflow_mul-result
overflow_mul-result c = omega (arith, (fits c.args.x c.requires).most)

-- the code takes each bit by its value, the definition by halves
by_values : (v : ℕ) → v % 2 ∷ v / 2 % 2 ∷ v / 4 % 2 ∷ v / 8 % 2 ∷ v / 16 % 2 ∷ v / 32 % 2 ∷ v / 64 % 2 ∷ v / 128 % 2 ∷ [] ≡ status_of v
by_values v =
    let h2 : v / 2 / 2 ≡ v / 4 = omega arith in
    let h3 : v / 4 / 2 ≡ v / 8 = omega arith in
    let h4 : v / 8 / 2 ≡ v / 16 = omega arith in
    let h5 : v / 16 / 2 ≡ v / 32 = omega arith in
    let h6 : v / 32 / 2 ≡ v / 64 = omega arith in
    let h7 : v / 64 / 2 ≡ v / 128 = omega arith in
    rw (h2, h3, h4, h5, h6, h7)

pub returns : goal.returns
returns c =
    let x = c.args.x in
    ap (λ (bits : List ℕ). x.number ∷ timestamp x.number ∷ x.l1 ∷ x.l2 ∷ x.l3 ∷ bits) (by_values x.outputs)
