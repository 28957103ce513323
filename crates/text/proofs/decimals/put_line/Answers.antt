use mathlib.Core.Path.{◌≡◌, refl, ap}
use mathlib.Core.Bool.{cond}
use Prim.Native.Nat.{ℕ, ◌+◌}
use lib.Dec.{eqb}
use Rattle.std.proofs.lemmas.Bool.Decides.{nat_tests}
use Rattle.text.specs.Line.{cr, comma}
use native.Mathlib.Omega.{arith}
use lib.ListN.{length}
use Rattle.text.specs.Number.{decimal}
use lib.Seq.{length-sets}
use Rattle.text.proofs.DecimalsLaws.{counted_more, counted_all, written_none, written_more, written_all}
use Rattle.text.proofs.decimals.put_line.Goals as goal
use Rattle.text.proofs.decimals.put_line.Goals.{then-k-numbers, else-k-numbers}

pub loop-k-init : goal.loop-k-init
loop-k-init c = written_none c.args.out.now c.args.numbers.now (omega arith)

pub put_decimal-p-requires : goal.put_decimal-p-requires
put_decimal-p-requires c =
    let l = c.loop-k in
    let ns = c.args.numbers.now in
    let next = counted_more ns l.k l.at l.invariant.count _ (omega arith) refl in
    let digits = ap (λ (n : ℕ). length (decimal n)) c.from.ensures in
    omega arith

pub bounds-out-p : goal.bounds-out-p
bounds-out-p c =
    let l = c.loop-k in
    let ns = c.args.numbers.now in
    let next = counted_more ns l.k l.at l.invariant.count _ (omega arith) refl in
    let digits = ap (λ (n : ℕ). length (decimal n)) c.from.ensures in
    let wrote = c.put_decimal-p.ensures in
    rw (wrote.output, length-sets) (omega arith)

pub overflow_add-at : goal.overflow_add-at
overflow_add-at c =
    let l = c.loop-k in
    let ns = c.args.numbers.now in
    let next = counted_more ns l.k l.at l.invariant.count _ (omega arith) refl in
    let digits = ap (λ (n : ℕ). length (decimal n)) c.from.ensures in
    omega arith

pub loop-k-preserved : goal.loop-k-preserved
loop-k-preserved c =
    let l = c.loop-k in
    let a = c.args in
    let closed : c.if-k-numbers.out ≡ cond (eqb (l.k + 1) (length a.numbers.now)) cr comma = elim c.if-k-numbers.branch [ then-k-numbers w ↦ grind (arith, nat_tests) | else-k-numbers w ↦ grind (arith, nat_tests) ] in
    written_more a.out.now a.numbers.now l.k l.at l.out l.invariant _ _ _ (omega arith) (rw c.from.ensures at c.put_decimal-p.ensures) closed

pub bounds-out-at : goal.bounds-out-at
bounds-out-at c =
    let l = c.loop-k in
    let ns = c.args.numbers.now in
    omega (arith, counted_all ns l.k l.at l.invariant.count (omega arith))

pub returns : goal.returns
returns c =
    let l = c.loop-k in
    let a = c.args in
    written_all a.out.now a.numbers.now l.k l.at l.out l.invariant (omega arith)
