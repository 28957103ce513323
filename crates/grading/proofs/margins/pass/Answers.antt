use native.Mathlib.Omega.{arith}
use mathlib.Core.Path.{◌∙◌, ap}
use lib.IntN.{ℤ}
use lib.Signed.{lt_z}
use mir.Syntax.{w64}
use mir.Val.{to_z, of_z}
use mir.ValLaws.{to_z-of_z}
use borrow.Author.Rules.{rules}
use Rattle.grading.specs.Margin.{difference_at}
use Rattle.grading.specs.Margins.{margins_of}
use Rattle.grading.specs.device.Pass.{counted, smaller_of}
use Rattle.grading.proofs.MarginLaws.{difference_of}
use Rattle.grading.proofs.PassLaws.{answer_of, pass_begins, place_within, pass_again, pass_ends}
use Rattle.grading.proofs.margins.pass.Goals as goal

pub loop-ratio-init : goal.loop-ratio-init
loop-ratio-init c = pass_begins (difference_at _ _) _ _

pub list_ratio-count-requires : goal.list_ratio-count-requires
list_ratio-count-requires c =
    place_within _ _ _ _ _ _ _ c.loop-ratio.invariant c.requires (omega (arith, c.loop-ratio-test.true))

pub loop-ratio-preserved : goal.loop-ratio-preserved
loop-ratio-preserved c =
    let z = difference_of c.args.upstream.settings c.args.downstream.settings c.loop-ratio.ratio c.margin_ready-difference.result c.margin_ready-difference.ensures (search rules) in
    pass_again _ _ _ _ _ _ _ c.loop-ratio.invariant c.requires (omega (arith, c.loop-ratio-test.true)) _ _ _
    (c.smaller.ensures ∙ ap (λ (d : ℤ). smaller_of c.loop-ratio.so_far d c.loop-ratio.ratio) z)
    (c.list_ratio-count.ensures ∙ ap (λ (d : ℤ). counted c.loop-ratio.list c.loop-ratio.count c.loop-ratio.ratio (lt_z d (to_z w64 (of_z w64 c.args.wanted)))) z)

pub returns : goal.returns
returns c =
    let up = c.args.upstream.settings in
    let down = c.args.downstream.settings in
    let smallest = c.unwrap-smallest.result in
    ap (λ (z : ℤ). answer_of z smallest.ratio (record { count = c.loop-ratio.count; list = c.loop-ratio.list })) (to_z-of_z w64 smallest.difference (search rules))
    ∙ pass_ends up down _ _ _ _ smallest _ (rw c.unwrap-smallest.ensures at c.loop-ratio.invariant) (omega (arith, c.loop-ratio-test.false))
    ∙ ap (λ (w : ℤ). margins_of up down w c.args.list.now) (to_z-of_z w64 c.args.wanted c.ranges.wanted)
