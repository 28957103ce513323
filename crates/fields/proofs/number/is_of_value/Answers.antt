-- `fields::number::is_of_value` meets its contract: by the digits before the point and those after it.
-- Assumes nothing.
use mathlib.Core.Path.{◌∙◌, ap}
use Prim.Native.Nat.{ℕ, ◌+◌, min}
use mathlib.Core.List.{List}
use borrow.Author.Tests.{eq-eqb, ne_eqb}
use Rattle.text.specs.Number.{value_of}
use Rattle.fields.specs.device.Calls.{large_value}
use Rattle.fields.proofs.MarkLaws.{tail_part}
use Rattle.fields.proofs.NumberLaws.{other_value, value_alone, value_and_nothing}
use Rattle.fields.proofs.number.is_of_value.Goals as goal

pub returns-else-value_to_large-v : goal.returns-else-value_to_large-v
returns-else-value_to_large-v c =
    let a = c.args in
    ne_eqb _ _ c.if-value_to_large-v.false ∙ other_value a.v a.s.now c.requires _ c.until-n.ensures _ c.value_to_large.ensures c.if-value_to_large-v.false

pub returns-then-n-s : goal.returns-then-n-s
returns-then-n-s c =
    let a = c.args in
    eq-eqb _ _ c.if-n-s.true ∙ value_alone a.v a.s.now c.requires _ c.until-n.ensures _ c.value_to_large.ensures c.if-value_to_large-v.true c.if-n-s.true

pub returns-else-n-s : goal.returns-else-n-s
returns-else-n-s c =
    let a = c.args in
    let rest = ap (λ (x : List ℕ). min (value_of x) large_value) (tail_part a.s.now (c.until-n.result + 1)) in
    value_and_nothing a.v a.s.now c.requires _ c.until-n.ensures _ c.value_to_large.ensures c.if-value_to_large-v.true _
    (c.value_to_large-else-n-s.ensures ∙ rest)
