-- `fields::number::after_whole` meets its contract: by the mark, and by what stands before it.
-- Assumes nothing.
use mathlib.Core.Path.{refl, sym, ap, ◌∙◌}
use mathlib.Core.Bool.{true, false}
use mathlib.Core.List.{List}
use Prim.Native.Nat.{ℕ, ◌+◌}
use native.Mathlib.Omega.{arith}
use Rattle.std.specs.Prelude.{Some, None}
use Rattle.fields.proofs.MarkLaws.{rest, tail_part}
use Rattle.fields.proofs.NumberLaws.{unmarked_leads, whole_leads, leads_with}
use Rattle.fields.proofs.number.after_whole.Goals as goal
use Rattle.fields.proofs.number.after_whole.Goals.{else-n-s-via-then-n-s+else-is_whole, else-n-s-via-else-n-s}

pub returns-then-is_whole : goal.returns-then-is_whole
returns-then-is_whole c =
    let a = c.args in
    let n = a.whole in
    let s = a.s.now in
    let u = c.until-n in
    let lead = whole_leads a.mark n.least n.most n.low n.high s u.result u.ensures (λ e. omega arith) ∙ sym c.is_whole.ensures ∙ c.if-is_whole.true in
    let part = ap (λ (t : List ℕ). Some t) (tail_part s (u.result + 1) ∙ rest a.mark a.mark s u.result u.ensures) in
    leads_with a.mark n.least n.most n.low n.high s true lead _ part

pub returns-else-n-s : goal.returns-else-n-s
returns-else-n-s c =
    let a = c.args in
    let n = a.whole in
    let s = a.s.now in
    let u = c.until-n in
    elim c.else-n-s.branch [
      | else-n-s-via-then-n-s+else-is_whole w ↦
          leads_with a.mark n.least n.most n.low n.high s false
          (whole_leads a.mark n.least n.most n.low n.high s u.result u.ensures (λ e. omega arith) ∙ sym w.is_whole.ensures ∙ w.if-is_whole.false) None refl
      | else-n-s-via-else-n-s w ↦
          leads_with a.mark n.least n.most n.low n.high s false (unmarked_leads a.mark n.least n.most n.low n.high s u.result u.ensures (omega arith)) None refl
    ]
