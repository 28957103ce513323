-- `grading::margin::margin_at` meets its contract: asked first, then the closed form.
-- Assumes nothing.
use mathlib.Core.Path.{sym, ◌∙◌, ap}
use Rattle.grading.specs.declared.refusal.Refusal.{Refusal}
use Rattle.grading.proofs.MarginLaws.{margin_refusal_by_parts, margin_passed_by_parts, margin_accepted, margin_refused}
use Rattle.grading.proofs.margin.margin_at.Goals as goal

pub returns-then-refusal-ne0 : goal.returns-then-refusal-ne0
returns-then-refusal-ne0 c =
    let a = c.args in
    let e = margin_refusal_by_parts a.upstream a.downstream a.ratio _ _ (rw (c.first_failed.ensures, c.in_range-right.ensures)) c.pair_refusal-refusal.ensures in
    sym (margin_refused a.upstream a.downstream a.ratio _ e c.if-refusal-ne0.true)

pub invariant_of-margin_ready : goal.invariant_of-margin_ready
invariant_of-margin_ready c =
    let p = margin_passed_by_parts c.args.upstream c.args.downstream c.args.ratio _ _ (rw (c.first_failed.ensures, c.in_range-right.ensures)) c.pair_refusal-refusal.ensures c.if-refusal-ne0.false in
    record { trips = p.0.above }

pub invariant_of-margin_ready-2 : goal.invariant_of-margin_ready-2
invariant_of-margin_ready-2 c =
    let p = margin_passed_by_parts c.args.upstream c.args.downstream c.args.ratio _ _ (rw (c.first_failed.ensures, c.in_range-right.ensures)) c.pair_refusal-refusal.ensures c.if-refusal-ne0.false in
    record { trips = p.0.below }

pub margin_ready-requires : goal.margin_ready-requires
margin_ready-requires c =
    let p = margin_passed_by_parts c.args.upstream c.args.downstream c.args.ratio _ _ (rw (c.first_failed.ensures, c.in_range-right.ensures)) c.pair_refusal-refusal.ensures c.if-refusal-ne0.false in
    (p.1, p.2)

pub returns : goal.returns
returns c =
    let a = c.args in
    let e = margin_refusal_by_parts a.upstream a.downstream a.ratio _ _ (rw (c.first_failed.ensures, c.in_range-right.ensures)) c.pair_refusal-refusal.ensures in
    c.margin_ready.ensures ∙ sym (margin_accepted a.upstream a.downstream a.ratio (ap (λ (r : Refusal). r.number) (sym e) ∙ c.if-refusal-ne0.false))
