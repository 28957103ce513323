-- `grading::margins::margins` meets its contract: asked first, then the pass.
-- Assumes nothing.
use mathlib.Core.Path.{sym, ◌∙◌, ap}
use lib.IntN.{ℤ}
use mir.Syntax.{w64}
use mir.ValLaws.{to_z-of_z}
use Rattle.grading.specs.declared.refusal.Refusal.{Refusal}
use Rattle.grading.specs.Margins.{margins_of}
use Rattle.grading.proofs.MarginsLaws.{margins_refusal_by_parts, margins_passed_by_parts, margins_accepted, margins_refused}
use Rattle.grading.proofs.margins.margins.Goals as goal

pub returns-then-refusal-ne0 : goal.returns-then-refusal-ne0
returns-then-refusal-ne0 c =
    let a = c.args in
    let e = margins_refusal_by_parts a.upstream a.downstream _ _ _ c.first_failed.ensures c.pair_refusal-refusal.ensures in
    sym (margins_refused a.upstream a.downstream a.wanted a.list.now _ e c.if-refusal-ne0.true)

pub invariant_of-pass : goal.invariant_of-pass
invariant_of-pass c =
    let p = margins_passed_by_parts c.args.upstream c.args.downstream _ _ _ c.first_failed.ensures c.pair_refusal-refusal.ensures c.if-refusal-ne0.false in
    record { trips = p.0.above }

pub invariant_of-pass-2 : goal.invariant_of-pass-2
invariant_of-pass-2 c =
    let p = margins_passed_by_parts c.args.upstream c.args.downstream _ _ _ c.first_failed.ensures c.pair_refusal-refusal.ensures c.if-refusal-ne0.false in
    record { trips = p.0.below }

pub pass-requires : goal.pass-requires
pass-requires c =
    (margins_passed_by_parts c.args.upstream c.args.downstream _ _ _ c.first_failed.ensures c.pair_refusal-refusal.ensures c.if-refusal-ne0.false).1

pub returns : goal.returns
returns c =
    let e = margins_refusal_by_parts c.args.upstream c.args.downstream _ _ _ c.first_failed.ensures c.pair_refusal-refusal.ensures in
    c.pass.ensures
    ∙ ap (λ (w : ℤ). margins_of c.args.upstream c.args.downstream w c.args.list.now) (to_z-of_z w64 c.args.wanted c.ranges.wanted)
    ∙ sym (margins_accepted c.args.upstream c.args.downstream c.args.wanted c.args.list.now (ap (λ (r : Refusal). r.number) (sym e) ∙ c.if-refusal-ne0.false))
