-- `phase::tick::tick` meets its contract: asked first, then the rules.
-- Assumes nothing.
use mathlib.Core.Path.{◌≡◌, sym, ◌∙◌}
use Rattle.phase.proofs.Accepted.{tick_passed, tick_accepted, tick_refused}
use Rattle.phase.specs.Tick.{tick_refusal}
use Rattle.phase.proofs.tick.tick.Goals as goal

pub returns-then-refusal-ne0 : goal.returns-then-refusal-ne0
unfolding tick_refusal
returns-then-refusal-ne0 c =
    let a = c.args in
    let e : c.phase_first_failed-refusal.result ≡ tick_refusal a.settings a.state = c.phase_first_failed-refusal.ensures in
    sym (tick_refused a.settings a.state a.g _ e c.if-refusal-ne0.true)

pub invariant_of-tick_ready : goal.invariant_of-tick_ready
unfolding tick_refusal
invariant_of-tick_ready c =
    let a = c.args in
    let e : c.phase_first_failed-refusal.result ≡ tick_refusal a.settings a.state = c.phase_first_failed-refusal.ensures in
    record { in_range = (tick_passed a.settings a.state (sym e ∙ c.if-refusal-ne0.false)).0 }

pub returns : goal.returns
unfolding tick_refusal
returns c =
    let a = c.args in
    let e : c.phase_first_failed-refusal.result ≡ tick_refusal a.settings a.state = c.phase_first_failed-refusal.ensures in
    c.tick_ready.ensures ∙ sym (tick_accepted a.settings a.state a.g (sym e ∙ c.if-refusal-ne0.false))
