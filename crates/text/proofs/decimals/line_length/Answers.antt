use mathlib.Core.Path.{refl, sym}
use native.Mathlib.Omega.{arith}
use Rattle.text.proofs.DecimalsLaws.{counted_none, counted_more, counted_all, line_longest}
use Rattle.text.proofs.decimals.line_length.Goals as goal

pub loop-n-init : goal.loop-n-init
loop-n-init c = counted_none c.args.numbers.now (omega arith)

pub overflow_add-at : goal.overflow_add-at
overflow_add-at c =
    let l = c.loop-n in
    let ns = c.args.numbers.now in
    let next = counted_more ns l.n-index l.at l.invariant _ (omega arith) refl in
    omega (arith, line_longest ns (omega arith))

pub overflow_add-at-in-loop-n : goal.overflow_add-at-in-loop-n
overflow_add-at-in-loop-n c =
    let l = c.loop-n in
    let ns = c.args.numbers.now in
    let next = counted_more ns l.n-index l.at l.invariant _ (omega arith) refl in
    omega (arith, line_longest ns (omega arith))

pub loop-n-preserved : goal.loop-n-preserved
loop-n-preserved c =
    let l = c.loop-n in
    let ns = c.args.numbers.now in
    counted_more ns l.n-index l.at l.invariant _ (omega arith) (omega arith)

pub overflow_add-result : goal.overflow_add-result
overflow_add-result c =
    let l = c.loop-n in
    let ns = c.args.numbers.now in
    omega (arith, counted_all ns l.n-index l.at l.invariant (omega arith), line_longest ns (omega arith))

pub returns : goal.returns
returns c =
    let l = c.loop-n in
    let ns = c.args.numbers.now in
    sym (counted_all ns l.n-index l.at l.invariant (omega arith))
