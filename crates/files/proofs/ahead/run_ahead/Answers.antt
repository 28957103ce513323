-- `files::ahead::run_ahead` meets its contract: rows are run so where they may be; else none.
-- Assumes nothing.
use Rattle.files.proofs.AheadLaws.{Quick, quick, way_ready, ran_ahead, not_ahead}
use native.Mathlib.Omega.{arith}
use mathlib.Core.Path.{sym, ◌∙◌}
use Rattle.files.proofs.ahead.run_ahead.Goals as goal

pub returns-then-not-is_quick : goal.returns-then-not-is_quick
returns-then-not-is_quick c = not_ahead _ _ _ _ _ c.requires.0

pub invariant_of-plan_of : goal.invariant_of-plan_of
invariant_of-plan_of c =
    let q : Quick c.args.form c.args.p = quick _ _ (sym c.is_quick.ensures ∙ c.if-not-is_quick.false) in
    record { in_range = q.range }

pub run_rows-ran-requires : goal.run_rows-ran-requires
run_rows-ran-requires c =
    let q : Quick c.args.form c.args.p = quick _ _ (sym c.is_quick.ensures ∙ c.if-not-is_quick.false) in
    let room = rw q.changes at c.requires.1 in
    (rw (c.plan_of-planned.ensures.0, c.way_from.ensures) (way_ready _ _ q), c.requires.0, omega (arith, room))

pub returns : goal.returns
returns c =
    let q : Quick c.args.form c.args.p = quick _ _ (sym c.is_quick.ensures ∙ c.if-not-is_quick.false) in
    ran_ahead _ _ _ _ _ _ _ _ q c.well_formed.1.0.1.1.1.1.1.0.1.1.0.1.0.1
    (rw (c.plan_of-planned.ensures.0, c.way_from.ensures) at c.run_rows-ran.ensures)
    c.progress_on.ensures
