-- `relay::tick::tick` meets its contract: asked first, then ticked.
-- Assumes nothing.
use Rattle.relay.proofs.RelayLaws.{Passed, relay_tick_passed, relay_tick_accepted, relay_tick_refused, relay_tick_refusal_by_parts}
use mathlib.Core.Path.{sym, ◌∙◌}
use native.Mathlib.Omega.{arith}
use mathlib.Core.Bool.{cond}
use lib.Dec.{leb}
use Rattle.relay.specs.Refusals.{wrong_block}
use Rattle.relay.proofs.tick.tick.Goals as goal

pub returns-then-refusal-ne0 : goal.returns-then-refusal-ne0
returns-then-refusal-ne0 c =
    let a = c.args in
    let asked = relay_tick_refusal_by_parts a.settings a.state a.sample.block _ _ c.first_failed-own.ensures c.relay_first_failed-refusal.ensures in
    sym (relay_tick_refused a.settings a.state a.sample.l1 a.sample.l2 a.sample.l3 a.sample.block _ asked (λ z. omega (arith, z, c.if-refusal-ne0.true)))

pub invariant_of-tick_three : goal.invariant_of-tick_three
invariant_of-tick_three c =
    let a = c.args in
    let asked = relay_tick_refusal_by_parts a.settings a.state a.sample.block _ _ c.first_failed-own.ensures c.relay_first_failed-refusal.ensures in
    let passed : Passed a.settings a.state (cond (leb a.sample.block 1) 0 wrong_block) = relay_tick_passed a.settings a.state a.sample.block (omega (arith, asked, c.if-refusal-ne0.false)) in
    record { in_range = passed.range }

pub returns : goal.returns
returns c =
    let a = c.args in
    let asked = relay_tick_refusal_by_parts a.settings a.state a.sample.block _ _ c.first_failed-own.ensures c.relay_first_failed-refusal.ensures in
    c.tick_three.ensures ∙ sym (relay_tick_accepted a.settings a.state a.sample.l1 a.sample.l2 a.sample.l3 a.sample.block (omega (arith, asked, c.if-refusal-ne0.false)))
