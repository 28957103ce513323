-- `fields::marks::spaces` meets its contract: the library finds the first byte that is no space.
-- Assumes nothing.
use Rattle.std.proofs.Common.{rules, tests}
use Rattle.std.proofs.lemmas.Iterator.{YieldsList-from_slice}
use Rattle.std.proofs.lemmas.Iterator.Search.{position_from_yields_List}
use Rattle.fields.proofs.MarkLaws.{no_space, space_place}
use Rattle.fields.proofs.marks.spaces.Goals as goal

pub returns : goal.returns
returns c =
    let s = c.args.s.now in
    let place = position_from_yields_List no_space _ _ c.position.result c.position.ensures.ran (YieldsList-from_slice s cc) (λ x b q k. search (rules, tests)) in
    space_place s c.position.result _ place c.unwrap_or.ensures
