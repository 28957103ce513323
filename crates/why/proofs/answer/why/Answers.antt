-- `why::answer::why` meets its contract: asked first, then the reason of the tick.
-- Assumes nothing.
use mathlib.Core.Path.{sym, ◌∙◌}
use Rattle.why.proofs.AnswerLaws.{why_refusal_by_parts, with_numbers, why_by_parts, why_refused}
use Rattle.why.proofs.answer.why.Goals as goal

pub returns-then-refusal-ne0 : goal.returns-then-refusal-ne0
returns-then-refusal-ne0 c =
    let a = c.args in
    let e = why_refusal_by_parts a.settings a.state a.block _ _ c.first_failed.ensures c.phase_first_failed-refusal.ensures in
    let both = with_numbers a.settings a.state a.g a.block _ (sym (why_refused a.settings a.state a.g a.block _ e c.if-refusal-ne0.true)) in
    record { answer = both.0; numbers = both.1 }

pub returns : goal.returns
returns c =
    let a = c.args in
    let e = why_refusal_by_parts a.settings a.state a.block _ _ c.first_failed.ensures c.phase_first_failed-refusal.ensures in
    let accepted = sym e ∙ c.if-refusal-ne0.false in
    let both =
    with_numbers a.settings a.state a.g a.block _
    (why_by_parts a.settings a.state a.g a.block _ _ _ accepted c.kind_of-kind.ensures c.tick-ticked.ensures c.reason_by.ensures) in
    record { answer = both.0; numbers = both.1 }
