use Rattle.std.specs.Prelude.{None}
use Rattle.rows.proofs.FrontRowLaws.{AtFront, at_front}
use mathlib.Core.Path.{sym, ◌∙◌}
use Rattle.files.proofs.AheadLaws.{front_room_law, front_number, rows_first, rows_again, ready_again, rows_room}
use native.Mathlib.Omega.{arith}
use Rattle.files.proofs.ahead.run_rows.Goals as goal

pub loop-front-init : goal.loop-front-init
loop-front-init c = (rows_first _ _ _ _ _ c.requires.1, c.requires.0)

pub on_front-way-requires : goal.on_front-way-requires
on_front-way-requires c =
    let f : AtFront c.args.portion.now c.loop-front.next c.loop-front.way.done c.in-Some.front = at_front _ _ _ _ (sym c.read_front.ensures ∙ c.in-Some.is) in
    let ready = c.loop-front.invariant.1 in
    let room = rows_room _ _ _ _ _ _ _ None c.loop-front.invariant.0 c.requires.2 in
    (ready, front_number _ _ _ _ _ ready f, omega (arith, room, front_room_law _ _ _ _ _ ready f, f.within))

pub loop-front-smaller : goal.loop-front-smaller
loop-front-smaller c =
    let f : AtFront c.args.portion.now c.loop-front.next c.loop-front.way.done c.in-Some.front = at_front _ _ _ _ (sym c.read_front.ensures ∙ c.in-Some.is) in
    omega (arith, f.farther, f.within)

pub loop-front-preserved : goal.loop-front-preserved
loop-front-preserved c =
    let f : AtFront c.args.portion.now c.loop-front.next c.loop-front.way.done c.in-Some.front = at_front _ _ _ _ (sym c.read_front.ensures ∙ c.in-Some.is) in
    let inv = c.loop-front.invariant in
    let on = c.on_front-way.ensures in
    (rows_again _ _ _ _ _ _ _ _ _ _ _ inv.0 inv.1 f on.way on.wrote, ready_again _ _ _ c.in-Some.front.row inv.1 on.way)

pub returns : goal.returns
returns c = c.loop-front.invariant.0
