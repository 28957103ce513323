-- `plans::plan::plan_of` meets its contract: by the group of operations.
-- Assumes nothing.
use mathlib.Core.Path.{refl}
use Rattle.plans.specs.device.Plan.{plan_of}
use Rattle.plans.proofs.plan.plan_of.Goals as goal

pub invariant_of-result : goal.invariant_of-result
unfolding plan_of
invariant_of-result c = record { is_theirs = rw (c.plan_by-plan.ensures, c.kind_of.ensures) }

pub returns : goal.returns
unfolding plan_of
returns c = (refl, rw (c.plan_by-plan.ensures, c.kind_of.ensures))
