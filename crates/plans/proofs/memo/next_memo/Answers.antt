-- `plans::memo::next_memo` meets its contract.
-- Assumes nothing.
use mathlib.Core.Path.{sym, ◌∙◌}
use native.Mathlib.Omega.{arith}
use Rattle.checks.proofs.Tests.{in_range_law}
use Rattle.plans.proofs.MemoLaws.{serves}
use Rattle.plans.proofs.memo.next_memo.Goals as goal

pub returns-then-in_range : goal.returns-then-in_range
returns-then-in_range c =
    let a = c.args in
    let some = c.requires in
    let within = in_range_law a.last.from a.last.to a.sample (sym c.in_range.ensures ∙ c.if-in_range.true) in
    serves a.checked.settings a.last some.0 a.sample (omega (arith, a.checked.in_range.start_low)) some.1 within.0 within.1
