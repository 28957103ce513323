use mathlib.Core.Path.{sym, ◌∙◌}
use Prim.Native.Nat.{◌-◌}
use native.Mathlib.Nat.{pow-le-pow_right}
use native.Mathlib.Omega.{arith}
use lib.ListN.{get_or}
use borrow.Author.Rules.{rules}
use Rattle.checks.proofs.Tests.{in_range_law}
use Rattle.text.proofs.DigitLaws.{nine_digits}
use Rattle.rows.proofs.FrontReading.{Found, reading_first, reading_on, found_full, found_other, field_read, field_empty, field_open}
use Rattle.rows.proofs.front.read_field.Goals as goal
use Rattle.rows.proofs.front.read_field.Goals.{else-loop-end-test, then-loop-end-test+then-not-is_digit, then-end-at-via-then-end-at, then-end-at-via-else-end-at+then-s-end}

pub loop-end-init : goal.loop-end-init
loop-end-init c = let a = c.args in reading_first a.s.now a.at a.width

pub overflow_mul-value : goal.overflow_mul-value
overflow_mul-value c =
    let l = c.loop-end in
    omega (arith, nine_digits l.value (l.end - c.args.at) l.invariant.small (omega (arith, l.invariant.begun, c.loop-end-test.true, c.requires.1)))

pub overflow_sub-value : goal.overflow_sub-value
overflow_sub-value c = omega (arith, (in_range_law 48 57 (get_or c.args.s.now c.loop-end.end 0) (sym c.is_digit.ensures ∙ c.if-not-is_digit.false)).0)

pub overflow_cast-value : goal.overflow_cast-value
overflow_cast-value c = search (rules, in_range_law 48 57 (get_or c.args.s.now c.loop-end.end 0) (sym c.is_digit.ensures ∙ c.if-not-is_digit.false))

pub overflow_add-value : goal.overflow_add-value
overflow_add-value c =
    let l = c.loop-end in
    omega (arith, nine_digits l.value (l.end - c.args.at) l.invariant.small (omega (arith, l.invariant.begun, c.loop-end-test.true, c.requires.1)), (in_range_law 48 57 (get_or c.args.s.now c.loop-end.end 0) (sym c.is_digit.ensures ∙ c.if-not-is_digit.false)).1)

pub loop-end-preserved : goal.loop-end-preserved
loop-end-preserved c =
    let a = c.args in
    let l = c.loop-end in
    let t = c.loop-end-test.true in
    reading_on a.s.now a.at a.width l.end l.value l.invariant t (omega (arith, t, c.requires.0)) (sym c.is_digit.ensures ∙ c.if-not-is_digit.false)

pub returns-then-end-at-clause-answer : goal.returns-then-end-at-clause-answer
returns-then-end-at-clause-answer c =
    let a = c.args in
    let l = c.loop-end in
    let found : Found a.s.now a.at a.width l.end l.value l.invariant =
    elim c.loop-end-test.branch [
      | else-loop-end-test w ↦ found_full a.s.now a.at a.width l.end l.value l.invariant (omega arith)
      | then-loop-end-test+then-not-is_digit w ↦ found_other a.s.now a.at a.width l.end l.value l.invariant (omega arith) (sym w.is_digit.ensures ∙ w.if-not-is_digit.true)
    ] in
    elim c.then-end-at.branch [
      | then-end-at-via-then-end-at w ↦ field_empty a.s.now a.at a.width l.end l.value l.invariant a.closer found (omega arith)
      | then-end-at-via-else-end-at+then-s-end w ↦ field_open a.s.now a.at a.width l.end l.value l.invariant a.closer found (λ z. omega arith)
    ]

pub returns-clause-answer : goal.returns-clause-answer
returns-clause-answer c =
    let a = c.args in
    let l = c.loop-end in
    let found : Found a.s.now a.at a.width l.end l.value l.invariant =
    elim c.loop-end-test.branch [
      | else-loop-end-test w ↦ found_full a.s.now a.at a.width l.end l.value l.invariant (omega arith)
      | then-loop-end-test+then-not-is_digit w ↦ found_other a.s.now a.at a.width l.end l.value l.invariant (omega arith) (sym w.is_digit.ensures ∙ w.if-not-is_digit.true)
    ] in
    field_read a.s.now a.at a.width l.end l.value l.invariant a.closer found (λ z. omega arith) (omega arith)

pub returns-clause-small : goal.returns-clause-small
returns-clause-small c =
    let l = c.loop-end in
    omega (arith, l.invariant.small, pow-le-pow_right {n = 10} (omega arith) {i = l.end - c.args.at} {j = c.args.width} (omega arith))
