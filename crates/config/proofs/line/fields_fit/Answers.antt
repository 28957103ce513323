use mathlib.Core.Path.{sym, ◌∙◌}
use native.Mathlib.Omega.{arith}
use Rattle.config.proofs.LineLaws.{turn_first, turn_wrong, turn_last, turn_next, turn_over, field_readable}
use Rattle.config.proofs.line.fields_fit.Goals as goal

pub loop-k-init : goal.loop-k-init
loop-k-init c = turn_first c.args.s.now c.args.fields.now

pub field_end-end-requires : goal.field_end-end-requires
field_end-end-requires c = c.loop-k.invariant.begins

pub fits-requires : goal.fits-requires
fits-requires c = field_readable c.args.fields.now c.loop-k.k c.requires c.loop-k-test.true

pub returns-then-not-fits : goal.returns-then-not-fits
returns-then-not-fits c =
    let a = c.args in
    turn_wrong a.s.now a.fields.now _ _ c.loop-k.invariant c.loop-k-test.true _ c.field_end-end.ensures (sym c.fits.ensures ∙ c.if-not-fits.true)

pub returns-then-end-s : goal.returns-then-end-s
returns-then-end-s c =
    let a = c.args in
    turn_last a.s.now a.fields.now _ _ c.loop-k.invariant c.loop-k-test.true _ c.field_end-end.ensures (sym c.fits.ensures ∙ c.if-not-fits.false) c.if-end-s.true

pub loop-k-preserved : goal.loop-k-preserved
loop-k-preserved c =
    let a = c.args in
    turn_next a.s.now a.fields.now _ _ c.loop-k.invariant c.loop-k-test.true _ c.field_end-end.ensures (sym c.fits.ensures ∙ c.if-not-fits.false) c.if-end-s.false

pub returns : goal.returns
returns c =
    let a = c.args in
    turn_over a.s.now a.fields.now _ _ c.loop-k.invariant (omega (arith, c.loop-k-test.false))
