-- `config::line::second_number` meets its contract: the field after the comma is all that is left.
-- Assumes nothing.
use mathlib.Core.Path.{◌∙◌, ap}
use Prim.Native.Nat.{◌+◌}
use native.Mathlib.Omega.{arith}
use Rattle.text.specs.declared.number.Digits.{Digits}
use Rattle.fields.proofs.MarkLaws.{tail_part}
use Rattle.config.proofs.LineLaws.{comma_inside, number_inside, second_read}
use Rattle.config.proofs.line.second_number.Goals as goal

pub slice_bounds-spaces-count : goal.slice_bounds-spaces-count
slice_bounds-spaces-count c = omega (arith, comma_inside c.args.s.now c.requires c.until-at.result c.until-at.ensures)

pub slice_bounds-spaces-start : goal.slice_bounds-spaces-start
slice_bounds-spaces-start c = omega (arith, comma_inside c.args.s.now c.requires c.until-at.result c.until-at.ensures)

pub read_digits-d-requires : goal.read_digits-d-requires
read_digits-d-requires c =
    let a = c.args in
    (number_inside a.s.now c.requires c.until-at.result c.until-at.ensures _ c.spaces-n.result (tail_part a.s.now (c.until-at.result + 1)) c.spaces-n.ensures, omega arith)

pub returns : goal.returns
returns c =
    let a = c.args in
    ap (λ (x : Digits). x.value) c.read_digits-d.ensures.digits
    ∙ second_read a.s.now c.requires c.until-at.result c.until-at.ensures _ c.spaces-n.result (tail_part a.s.now (c.until-at.result + 1)) c.spaces-n.ensures
