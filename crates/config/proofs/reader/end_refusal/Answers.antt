-- `config::reader::end_refusal` meets its contract: by whether something was refused, then by whether all lines are passed.
-- Assumes nothing.
use mathlib.Core.Path.{◌≡◌, sym, ap, ◌∙◌}
use mathlib.Core.Bool.{true, false, not}
use native.Mathlib.Omega.{arith}
use borrow.Author.Tests.{lt-ltb, le-ltb}
use Rattle.std.specs.Prelude.{is_none}
use Rattle.config.specs.Shape.{line_count}
use Rattle.config.specs.Reader.{end_refusal}
use Rattle.config.proofs.reader.end_refusal.Goals as goal

pub returns-then-is_some : goal.returns-then-is_some
unfolding end_refusal
returns-then-is_some c =
    let some : is_none c.args.r.refusal ≡ false = ap not (sym c.is_some.ensures ∙ c.if-is_some.true) in
    rw some

pub returns-then-r-gt-LAST_LINE : goal.returns-then-r-gt-LAST_LINE
unfolding end_refusal
returns-then-r-gt-LAST_LINE c =
    let r = c.args.r in
    let none : is_none r.refusal ≡ true = ap not (sym c.is_some.ensures ∙ c.if-is_some.false) in
    rw (none, lt-ltb line_count r.line (omega arith))

pub returns-else-r-gt-LAST_LINE : goal.returns-else-r-gt-LAST_LINE
unfolding end_refusal
returns-else-r-gt-LAST_LINE c =
    let r = c.args.r in
    let none : is_none r.refusal ≡ true = ap not (sym c.is_some.ensures ∙ c.if-is_some.false) in
    rw (none, le-ltb line_count r.line (omega arith), c.number_due.ensures)
