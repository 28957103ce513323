-- `jumps::jump::jump` meets its contract: asked first, then the closed form.
-- Assumes nothing.
use mathlib.Core.Path.{sym, ◌∙◌, ap}
use Rattle.jumps.specs.Jump.{jump_of}
use Rattle.phase.specs.declared.pace.Pace.{Pace}
use Rattle.phase.specs.device.Pace.{pace_of}
use Rattle.jumps.proofs.JumpAccepted.{jump_passed, jump_refusal_by_parts, jump_accepted, jump_refused}
use Rattle.jumps.proofs.JumpMeans.{with_number}
use Rattle.jumps.proofs.jump.jump.Goals as goal

pub returns-then-refusal-ne0 : goal.returns-then-refusal-ne0
returns-then-refusal-ne0 c =
    let a = c.args in
    let e = jump_refusal_by_parts a.settings a.state a.count _ _ c.first_failed.ensures c.phase_first_failed-refusal.ensures in
    let both = with_number a.settings a.state a.g a.count _ (sym (jump_refused a.settings a.state a.g a.count _ e c.if-refusal-ne0.true)) in
    record { answer = both.0; number = both.1 }

pub invariant_of-ticks : goal.invariant_of-ticks
invariant_of-ticks c =
    let a = c.args in
    let e = jump_refusal_by_parts a.settings a.state a.count _ _ c.first_failed.ensures c.phase_first_failed-refusal.ensures in
    record { in_range = (jump_passed a.settings a.state a.count (sym e ∙ c.if-refusal-ne0.false)).0 }

pub invariant_of-ticks-2 : goal.invariant_of-ticks-2
unfolding pace_of
invariant_of-ticks-2 c = record { own_pace = rw c.pace_of.ensures }

pub returns : goal.returns
unfolding pace_of
returns c =
    let a = c.args in
    let e = jump_refusal_by_parts a.settings a.state a.count _ _ c.first_failed.ensures c.phase_first_failed-refusal.ensures in
    let both =
    with_number a.settings a.state a.g a.count _
    (c.jump_ready.ensures
    ∙ ap (λ (pace : Pace). jump_of a.settings a.state pace.sample a.count) c.pace_of.ensures
    ∙ sym (jump_accepted a.settings a.state a.g a.count (sym e ∙ c.if-refusal-ne0.false))) in
    record { answer = both.0; number = both.1 }
