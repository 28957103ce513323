use mathlib.Core.Path.{sym, ap, ◌∙◌}
use Prim.Native.Nat.{◌+◌}
use native.Mathlib.Omega.{arith}
use Rattle.text.specs.Number.{is_digit}
use Rattle.text.proofs.DigitLaws.{one_more_law, nine_digits, digits_none, digits_again, digits_over, digits_stop, part_at, part_over}
use Rattle.text.proofs.number.read_digits.Goals as goal

pub loop-count-init : goal.loop-count-init
loop-count-init c = digits_none c.args.s.now c.args.at c.args.width (omega arith)

pub returns-then-not-is_ascii_digit : goal.returns-then-not-is_ascii_digit
returns-then-not-is_ascii_digit c =
    let l = c.loop-count in
    let a = c.args in
    let (few, within, here) = part_at a.s.now a.at a.width c.min.result l.count (omega arith) c.min.ensures c.loop-count-test.true in
    let none = ap is_digit (sym here) ∙ sym c.is_ascii_digit.ensures.value ∙ c.if-not-is_ascii_digit.true in
    record { digits = digits_stop a.width l.count l.value (a.at + l.count) a.s.now few within none ∙ l.invariant.whole; within = omega arith }

pub overflow_mul-value : goal.overflow_mul-value
overflow_mul-value c =
    let l = c.loop-count in
    let a = c.args in
    let (few, _, _) = part_at a.s.now a.at a.width c.min.result l.count (omega arith) c.min.ensures c.loop-count-test.true in
    omega (arith, nine_digits l.value l.count l.invariant.small (omega arith))

pub overflow_add-value : goal.overflow_add-value
overflow_add-value c =
    let l = c.loop-count in
    let a = c.args in
    let (few, _, _) = part_at a.s.now a.at a.width c.min.result l.count (omega arith) c.min.ensures c.loop-count-test.true in
    omega (arith, nine_digits l.value l.count l.invariant.small (omega arith))

pub loop-count-preserved : goal.loop-count-preserved
loop-count-preserved c =
    let l = c.loop-count in
    let a = c.args in
    let (few, within, here) = part_at a.s.now a.at a.width c.min.result l.count (omega arith) c.min.ensures c.loop-count-test.true in
    let digit = sym c.is_ascii_digit.ensures.value ∙ c.if-not-is_ascii_digit.false in
    let again = digits_again a.width l.count l.value a.at a.s.now _ few within here digit in
    record {
      few = omega arith;
      within = omega arith;
      small = one_more_law l.value c.from.result l.count l.invariant.small (omega (arith, c.if-not-is_ascii_digit.ensures.cases));
      whole = rw c.from.ensures again ∙ l.invariant.whole;
    }

pub returns : goal.returns
returns c =
    let l = c.loop-count in
    let a = c.args in
    let (end, over) = part_over a.s.now a.at a.width c.min.result l.count (omega arith) c.min.ensures c.loop-count-test.false c.loop-count.auto.count-end in
    rw end (record { digits = digits_over a.width l.count l.value (a.at + l.count) a.s.now over ∙ l.invariant.whole; within = omega arith })
