use mathlib.Core.Path.{◌≡◌, refl}
use native.Mathlib.Omega.{arith}
use borrow.Author.Rules.{rules}
use denote.Enum.Bare.{same_true, same_false}
use Rattle.text.specs.contracts.lines.Cut.{the_type}
use Rattle.text.specs.declared.cutter.Cutter.{Cutter}
use Rattle.text.specs.declared.lines.Cut.TheVariants.{Held}
use Rattle.text.proofs.CutTurns.{turn_end, turn_on, turn_done}
use Rattle.text.proofs.cutter.cut_on.Goals as goal

pub loop-i-init : goal.loop-i-init
loop-i-init c = record { short = search rules; fits = search rules; room = search rules; same = refl; at_end = omega arith }

pub returns-then-ne : goal.returns-then-ne
returns-then-ne c =
    let a = c.args in
    let l = c.loop-i in
    let k = c.cut_byte-cut in
    let here : Cutter = record { held = l.held; count = l.count } in
    let done : k.result ≡ Held → ⊥ = same_false the_type k.result Held (search rules) in
    turn_done a.closer a.limit a.cutter a.portion.now a.from here l.i l.invariant (omega arith) k.new.held k.result k.ensures done

pub loop-i-preserved : goal.loop-i-preserved
loop-i-preserved c =
    let a = c.args in
    let l = c.loop-i in
    let k = c.cut_byte-cut in
    let here : Cutter = record { held = l.held; count = l.count } in
    let held : k.result ≡ Held = same_true the_type (search rules) k.result Held (search rules) in
    turn_on a.closer a.limit a.cutter a.portion.now a.from here l.i l.invariant (omega arith) k.new.held k.result k.ensures held

pub returns : goal.returns
returns c =
    let a = c.args in
    let l = c.loop-i in
    let here : Cutter = record { held = l.held; count = l.count } in
    turn_end a.closer a.limit a.cutter a.portion.now a.from here l.i l.invariant c.max.result (omega arith) (omega arith) c.max.ensures
