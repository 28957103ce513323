-- `plans::course::turn` meets its contract: with the memory of the sample, the branch that is taken is the tick by the plan.
-- Assumes nothing.
use Rattle.plans.proofs.PlanLaws.{turned_by, gain_within, state_within}
use mathlib.Core.Bool.{true, false}
use borrow.Author.Tests.{lt-ltb, le-ltb}
use native.Mathlib.Omega.{arith}
use Rattle.plans.proofs.course.turn.Goals as goal

pub after_started-after-requires : goal.after_started-after-requires
after_started-after-requires c =
    let s = state_within _ _ c.args.planned.checked.in_range c.requires.valid in
    (s.0, gain_within _ _ _ c.next_memo-memo.ensures, s.1)

pub after_idle-requires : goal.after_idle-requires
after_idle-requires c = (state_within _ _ c.args.planned.checked.in_range c.requires.valid).2

pub returns-then-course-sample : goal.returns-then-course-sample
returns-then-course-sample c =
    let p = c.args.planned in
    rw (c.is_due.ensures, c.after_started-after.ensures)
    (turned_by _ p.plan c.args.course _ true c.args.sample p.checked.in_range p.is_theirs c.requires (omega arith) c.next_memo-memo.ensures (lt-ltb _ _ c.if-course-sample.true))

pub returns-else-course-sample : goal.returns-else-course-sample
returns-else-course-sample c =
    let p = c.args.planned in
    rw c.after_idle.ensures
    (turned_by _ p.plan c.args.course _ false c.args.sample p.checked.in_range p.is_theirs c.requires (omega arith) c.next_memo-memo.ensures (le-ltb _ _ c.if-course-sample.false))
