-- `fields::marks::until` meets its contract: the library finds the first mark.
-- Assumes nothing.
use Rattle.std.proofs.Common.{rules, tests}
use Rattle.std.proofs.lemmas.Iterator.{YieldsList-from_slice}
use Rattle.std.proofs.lemmas.Iterator.Search.{position_from_yields_List}
use Rattle.fields.specs.Marks.{is_mark}
use Rattle.fields.proofs.MarkLaws.{mark_place}
use Rattle.fields.proofs.marks.until.Goals as goal

pub returns : goal.returns
returns c =
    let a = c.args in
    let place = position_from_yields_List (is_mark a.m a.n) _ _ c.position.result c.position.ensures.ran (YieldsList-from_slice a.s.now cc) (λ x b q k. search (rules, tests)) in
    mark_place a.m a.n a.s.now c.position.result _ place c.unwrap_or.ensures
