-- `fields::number::some_digits` meets its contract.
-- Assumes nothing.
use mathlib.Core.Path.{sym, ◌∙◌}
use native.Mathlib.Omega.{arith}
use borrow.Author.Tests.{eqb-false}
use lib.ListN.{length}
use Rattle.fields.proofs.MarkLaws.{digits_within}
use Rattle.fields.proofs.NumberLaws.{some_all_digits}
use Rattle.fields.proofs.number.some_digits.Goals as goal

pub returns-then-not-is_empty : goal.returns-then-not-is_empty
returns-then-not-is_empty c =
    let s = c.args.s.now in
    let some = eqb-false (length s) 0 (sym c.is_empty.ensures ∙ c.if-not-is_empty.true) in
    c.all_within.ensures ∙ digits_within s ∙ sym (some_all_digits s (omega (arith, some)))
