-- `fields::number::is_whole` meets its contract: by what the reader of digits finds.
-- Assumes nothing.
use mathlib.Core.Path.{◌≡◌, ap, ◌∙◌}
use native.Mathlib.Omega.{arith}
use Rattle.std.proofs.Common.{rules, tests}
use Rattle.checks.specs.Range.{in_range}
use Rattle.text.specs.declared.number.Digits.{Digits}
use Rattle.text.proofs.DigitLaws.{digits_count}
use Rattle.fields.proofs.NumberLaws.{whole_uneven, whole_short, whole_here}
use Rattle.fields.proofs.number.is_whole.Goals as goal
use Rattle.fields.proofs.number.is_whole.Goals.{then-d-s, else-d-s}

pub returns-then-whole-d : goal.returns-then-whole-d
returns-then-whole-d c =
    let a = c.args in
    let w = a.whole in
    let d = c.read_digits-d in
    let counted = digits_count d.result w.most a.s.now d.ensures.digits in
    let valued = ap (λ (x : Digits). x.value) d.ensures.digits in
    let inside : c.contains.result ≡ in_range w.low w.high d.result.value = search (rules, tests) in
    inside ∙ whole_here w.least w.most w.low w.high a.s.now _ _ counted valued (omega arith) (omega arith)

pub returns-else-whole-d : goal.returns-else-whole-d
returns-else-whole-d c =
    let a = c.args in
    let w = a.whole in
    let d = c.read_digits-d in
    let counted = digits_count d.result w.most a.s.now d.ensures.digits in
    let valued = ap (λ (x : Digits). x.value) d.ensures.digits in
    elim c.if-d-s.branch [
      | then-d-s v ↦ cc (whole_short w.least w.most w.low w.high a.s.now _ _ counted valued (omega arith) (omega arith))
      | else-d-s v ↦ cc (whole_uneven w.least w.most w.low w.high a.s.now _ _ counted valued (λ e. omega arith))
    ]
