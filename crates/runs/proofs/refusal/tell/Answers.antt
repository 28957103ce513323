-- `runs::refusal::tell` meets its contract: the number is that of the refusal.
-- Assumes nothing.
use mathlib.Core.Path.{ap, ◌∙◌}
use Rattle.rows.specs.declared.refusal.Refusal.{Refusal}
use Rattle.runs.proofs.refusal.tell.Goals as goal

pub returns-then-refusal-eq0 : goal.returns-then-refusal-eq0
returns-then-refusal-eq0 c = ap (λ (x : Refusal). x.number) c.refusal_at_end-refusal.ensures

pub returns : goal.returns
returns c = c.say_reason.ensures ∙ ap (λ (x : Refusal). x.number) c.refusal_at_end-refusal.ensures
