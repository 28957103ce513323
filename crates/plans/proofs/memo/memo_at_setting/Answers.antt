-- `plans::memo::memo_at_setting` meets its contract.
-- Assumes nothing.
use mathlib.Core.Path.{◌∙◌}
use native.Mathlib.Omega.{arith}
use Rattle.plans.proofs.MemoLaws.{at_setting}
use Rattle.plans.proofs.memo.memo_at_setting.Goals as goal

pub returns : goal.returns
returns c = c.memo_at.ensures ∙ at_setting _ (omega (arith, c.args.checked.in_range.start_low))
