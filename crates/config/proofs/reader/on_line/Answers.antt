-- `config::reader::on_line` meets its contract: by whether something was refused before, then by whether the line is right.
-- Assumes nothing.
use mathlib.Core.Path.{◌≡◌, sym, ap, ◌∙◌}
use mathlib.Core.Bool.{true, false, not}
use native.Mathlib.Omega.{arith}
use Rattle.config.specs.Shape.{line_count}
use Rattle.config.specs.Reader.{is_due, is_right_at, after_line_if}
use Rattle.std.specs.Prelude.{is_none}
use Rattle.checks.proofs.Tests.{both_true, in_range_law}
use Rattle.config.proofs.reader.on_line.Goals as goal

pub returns-then-is_some : goal.returns-then-is_some
unfolding after_line_if
returns-then-is_some c =
    let some : is_none c.args.r.refusal ≡ false = ap not (sym c.is_some.ensures ∙ c.if-is_some.true) in
    rw some

pub returns-then-not-is_right_at : goal.returns-then-not-is_right_at
unfolding after_line_if
returns-then-not-is_right_at c =
    let a = c.args in
    let none : is_none a.r.refusal ≡ true = ap not (sym c.is_some.ensures ∙ c.if-is_some.false) in
    let wrong : is_right_at a.r.line a.l.now ≡ false = sym c.is_right_at.ensures ∙ c.if-not-is_right_at.true in
    rw (none, wrong) c.refuse.ensures

pub last_after-requires : goal.last_after-requires
last_after-requires c = sym c.is_right_at.ensures ∙ c.if-not-is_right_at.false

pub overflow_add-result : goal.overflow_add-result
overflow_add-result c =
    let a = c.args in
    let right : is_right_at a.r.line a.l.now ≡ true = sym c.is_right_at.ensures ∙ c.if-not-is_right_at.false in
    let due = (both_true (is_due a.r.line) _ right).0 in
    omega (arith, (in_range_law 1 line_count a.r.line due).1)

pub returns : goal.returns
unfolding after_line_if
returns c =
    let a = c.args in
    let none : is_none a.r.refusal ≡ true = ap not (sym c.is_some.ensures ∙ c.if-is_some.false) in
    let right : is_right_at a.r.line a.l.now ≡ true = sym c.is_right_at.ensures ∙ c.if-not-is_right_at.false in
    rw (none, right, c.last_after.ensures)
