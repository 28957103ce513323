-- `fields::marks::mark_length` meets its contract: the first byte tells.
-- Assumes nothing.
use native.Mathlib.Omega.{arith}
use Rattle.std.proofs.lemmas.Bool.Decides.{nat_tests}
use Rattle.fields.proofs.MarkLaws.{mark_first, no_mark_first}
use Rattle.fields.proofs.marks.mark_length.Goals as goal
use Rattle.fields.proofs.marks.mark_length.Goals.{then-b-m, else-b-m}

pub returns-in-len1-up : goal.returns-in-len1-up
returns-in-len1-up c = let a = c.args in mark_first a.m a.n a.s.now (omega arith) (elim c.if-b-m.branch [ then-b-m w ↦ grind (arith, nat_tests) | else-b-m w ↦ grind (arith, nat_tests) ])

pub returns-in_default : goal.returns-in_default
returns-in_default c = let a = c.args in no_mark_first a.m a.n a.s.now (λ h. absurd (omega arith))

pub returns-in_default-2 : goal.returns-in_default-2
returns-in_default-2 c = let a = c.args in no_mark_first a.m a.n a.s.now (λ h. elim c.if-b-m.branch [ then-b-m w ↦ grind (arith, nat_tests) | else-b-m w ↦ grind (arith, nat_tests) ])
