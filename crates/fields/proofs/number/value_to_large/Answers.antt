use mathlib.Core.Path.{◌≡◌, refl, sym, ◌∙◌}
use Prim.Native.Nat.{◌+◌, ◌-◌, ◌*◌, min}
use native.Mathlib.Omega.{arith}
use lib.ListN.{get_or}
use Rattle.fields.specs.device.Calls.{large_value}
use Rattle.text.proofs.DigitLaws.{capped_end, capped_on}
use Rattle.fields.proofs.number.value_to_large.Goals as goal

pub loop-b-init : goal.loop-b-init
loop-b-init c = (omega arith, refl)

pub loop-b-preserved : goal.loop-b-preserved
loop-b-preserved c =
    let l = c.loop-b in
    let next : c.min-value.result ≡ min (l.value * 10 + (get_or c.args.s.now l.b-index 0 - 48)) large_value = omega arith in
    (omega (arith, next), l.invariant.1 ∙ capped_on large_value c.args.s.now l.b-index l.value c.loop-b-test.true c.min-value.result next)

pub returns : goal.returns
returns c =
    let l = c.loop-b in
    sym (l.invariant.1 ∙ capped_end large_value c.args.s.now l.b-index l.value (omega arith) l.invariant.0)
