-- `fields::number::is_unsigned_decimal` meets its contract: by the point, and by what stands before it.
-- Assumes nothing.
use mathlib.Core.Path.{sym, ap, ◌∙◌}
use Prim.Native.Nat.{◌+◌}
use borrow.Author.Tests.{eq-eqb}
use Rattle.fields.specs.Number.{point, some_digits}
use Rattle.fields.proofs.MarkLaws.{tail_part}
use Rattle.fields.proofs.NumberLaws.{not_first, first_alone, first_and_rest}
use Rattle.fields.proofs.number.is_unsigned_decimal.Goals as goal

pub returns-else-some_digits : goal.returns-else-some_digits
returns-else-some_digits c =
    c.if-some_digits.false ∙ not_first point point some_digits some_digits c.args.s.now _ c.until-n.ensures (sym c.some_digits.ensures ∙ c.if-some_digits.false)

pub returns-then-n-s : goal.returns-then-n-s
returns-then-n-s c =
    eq-eqb _ _ c.if-n-s.true
    ∙ first_alone point point some_digits some_digits c.args.s.now _ c.until-n.ensures
    (sym c.some_digits.ensures ∙ c.if-some_digits.true) c.if-n-s.true

pub returns-else-n-s : goal.returns-else-n-s
returns-else-n-s c =
    c.some_digits-else-n-s.ensures
    ∙ ap some_digits (tail_part c.args.s.now (c.until-n.result + 1))
    ∙ first_and_rest point point some_digits some_digits c.args.s.now _ c.until-n.ensures
    (sym c.some_digits.ensures ∙ c.if-some_digits.true) c.if-n-s.false
