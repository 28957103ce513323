-- `fields::marks::all_within` meets its contract: the library asks of each byte.
-- Assumes nothing.
use mathlib.Core.Path.{◌∙◌}
use Rattle.std.proofs.Common.{rules, tests}
use Rattle.std.proofs.lemmas.Iterator.{YieldsList-from_slice}
use Rattle.std.proofs.lemmas.Iterator.Search.{all_from_yields_List}
use Rattle.checks.specs.Range.{in_range}
use Rattle.fields.proofs.MarkLaws.{all_in_range}
use Rattle.fields.proofs.marks.all_within.Goals as goal

pub returns : goal.returns
returns c =
    let a = c.args in
    let all = all_from_yields_List (in_range a.low a.high) _ _ c.all.result c.all.ensures.ran (YieldsList-from_slice a.s.now cc) (λ x b q k. search (rules, tests)) in
    all ∙ all_in_range a.low a.high a.s.now
