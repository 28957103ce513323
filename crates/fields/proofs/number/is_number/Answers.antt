-- `fields::number::is_number` meets its contract: by the exponent, and by what stands before it.
-- Assumes nothing.
use mathlib.Core.Path.{sym, ap, ◌∙◌}
use Prim.Native.Nat.{◌+◌}
use native.Mathlib.Omega.{arith}
use lib.ListN.{length}
use borrow.Author.Tests.{le-leb, eq-eqb}
use Rattle.fields.specs.Number.{small_e, capital_e, longest_number, is_decimal, is_exponent}
use Rattle.fields.proofs.MarkLaws.{tail_part, passed_first}
use Rattle.fields.proofs.NumberLaws.{not_first, first_alone, first_and_rest}
use Rattle.fields.proofs.number.is_number.Goals as goal

pub returns-else-is_decimal : goal.returns-else-is_decimal
returns-else-is_decimal c =
    passed_first _ _ _ (le-leb (length c.args.s.now) longest_number (omega arith))
    (c.if-is_decimal.false ∙ not_first small_e capital_e is_decimal is_exponent c.args.s.now _ c.until-n.ensures (sym c.is_decimal.ensures ∙ c.if-is_decimal.false))

pub returns-then-n-s : goal.returns-then-n-s
returns-then-n-s c =
    passed_first _ _ _ (le-leb (length c.args.s.now) longest_number (omega arith))
    (eq-eqb _ _ c.if-n-s.true
    ∙ first_alone small_e capital_e is_decimal is_exponent c.args.s.now _ c.until-n.ensures
    (sym c.is_decimal.ensures ∙ c.if-is_decimal.true) c.if-n-s.true)

pub returns-else-n-s : goal.returns-else-n-s
returns-else-n-s c =
    passed_first _ _ _ (le-leb (length c.args.s.now) longest_number (omega arith))
    (c.is_exponent.ensures
    ∙ ap is_exponent (tail_part c.args.s.now (c.until-n.result + 1))
    ∙ first_and_rest small_e capital_e is_decimal is_exponent c.args.s.now _ c.until-n.ensures
    (sym c.is_decimal.ensures ∙ c.if-is_decimal.true) c.if-n-s.false)
