use mathlib.Core.Path.{◌≡◌, sym, ap, ◌∙◌}
use mathlib.Core.Bool.{true}
use mathlib.Core.List.{List}
use Prim.Native.Nat.{ℕ, ◌≤◌, ◌<◌}
use native.Mathlib.Omega.{arith}
use lib.ListN.{get_or}
use Rattle.text.specs.Number.{is_digit}
use Rattle.std.specs.Prelude.{Ok, Err}
use Rattle.faults.specs.declared.reader.Closing.TheVariants.{Next, Last}
use Rattle.faults.specs.Reader.{narrow}
use Rattle.checks.proofs.Tests.{in_range_law}
use Rattle.text.proofs.DigitLaws.{nine_digits}
use Rattle.faults.proofs.ReadingLaws.{narrow_at, read_first, read_digit, read_too_many, read_flawed, read_last, read_next}
use Rattle.std.proofs.lemmas.Result.{err_from_is_err_and}
use Rattle.faults.proofs.reader.read_line.Goals as goal

pub fields-init : goal.fields-init
fields-init c =
    let a = c.args in
    read_first a.widths.now a.s.now c.requires.some

-- in the inner loop, past its two tests: one more digit fits
room_here : (ws : List ℕ) (k digits : ℕ) → narrow ws ≡ true → digits ≤ get_or ws k 0 → (digits ≡ get_or ws k 0 → ⊥) → digits < 10
room_here ws k digits h l n = omega (arith, narrow_at ws k h)

pub overflow_mul-value : goal.overflow_mul-value
overflow_mul-value c =
    let l = c.loop-b in
    let small = nine_digits l.value l.digits l.invariant.small (room_here c.args.widths.now c.fields.k l.digits c.requires.each l.invariant.fits c.if-digits-width.false) in
    omega (arith, small)

pub overflow_add-value : goal.overflow_add-value
overflow_add-value c =
    let l = c.loop-b in
    let small = nine_digits l.value l.digits l.invariant.small (room_here c.args.widths.now c.fields.k l.digits c.requires.each l.invariant.fits c.if-digits-width.false) in
    let digit = sym (ap is_digit c.byte_at-b.ensures) ∙ sym c.is_digit.ensures ∙ c.if-not-is_digit.false in
    omega (arith, small, c.byte_at-b.ensures, (in_range_law 48 57 (get_or c.args.s.now l.at 0) digit).1)

pub loop-b-preserved : goal.loop-b-preserved
loop-b-preserved c =
    let a = c.args in
    let f = c.fields in
    let l = c.loop-b in
    let digit = sym (ap is_digit c.byte_at-b.ensures) ∙ sym c.is_digit.ensures ∙ c.if-not-is_digit.false in
    rw c.byte_at-b.ensures (read_digit a.widths.now a.s.now l.at f.k l.digits l.value f.numbers l.invariant digit c.if-digits-width.false)

pub fields-preserved : goal.fields-preserved
fields-preserved c =
    let a = c.args in
    let f = c.fields in
    let l = c.loop-b in
    let none = sym (ap is_digit c.byte_at-b.ensures) ∙ sym c.is_digit.ensures ∙ c.if-not-is_digit.true in
    let next : c.closing_at.result ≡ Ok Next = c.in_ok-closing_at.was ∙ ap Ok c.in-Next.is in
    read_next a.widths.now a.s.now l.at f.k l.digits l.value f.numbers l.invariant none c.closing_at.result c.closing_at.ensures next

pub returns-then-digits-width : goal.returns-then-digits-width
returns-then-digits-width c =
    let a = c.args in
    let f = c.fields in
    let l = c.loop-b in
    let digit = sym (ap is_digit c.byte_at-b.ensures) ∙ sym c.is_digit.ensures ∙ c.if-not-is_digit.false in
    ap Err c.new.ensures ∙ read_too_many a.widths.now a.s.now l.at f.k l.digits l.value f.numbers l.invariant digit c.if-digits-width.true

pub returns-in-Last : goal.returns-in-Last
returns-in-Last c =
    let a = c.args in
    let f = c.fields in
    let l = c.loop-b in
    let none = sym (ap is_digit c.byte_at-b.ensures) ∙ sym c.is_digit.ensures ∙ c.if-not-is_digit.true in
    let last : c.closing_at.result ≡ Ok Last = c.in_ok-closing_at.was ∙ ap Ok c.in-Last.is in
    read_last a.widths.now a.s.now l.at f.k l.digits l.value f.numbers l.invariant none c.closing_at.result c.closing_at.ensures last

pub returns-in_err-closing_at : goal.returns-in_err-closing_at
returns-in_err-closing_at c =
    let a = c.args in
    let f = c.fields in
    let l = c.loop-b in
    let none = sym (ap is_digit c.byte_at-b.ensures) ∙ sym c.is_digit.ensures ∙ c.if-not-is_digit.true in
    let wrong = read_flawed a.widths.now a.s.now l.at f.k l.digits l.value f.numbers l.invariant none c.closing_at.result c.closing_at.ensures _ c.in_err-closing_at.was in
    let told = err_from_is_err_and c.from_residual.result c.from_residual.ensures.1 in
    rw (told.1, told.2) wrong
