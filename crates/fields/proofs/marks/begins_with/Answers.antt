-- `fields::marks::begins_with` meets its contract: the first byte tells.
-- Assumes nothing.
use native.Mathlib.Omega.{arith}
use Rattle.std.proofs.lemmas.Bool.Decides.{nat_tests}
use Rattle.fields.proofs.MarkLaws.{nothing_begins, begins_by_first}
use Rattle.fields.proofs.marks.begins_with.Goals as goal

pub returns-in-len1-up : goal.returns-in-len1-up
returns-in-len1-up c = grind (arith, nat_tests, begins_by_first)

pub returns-in_default : goal.returns-in_default
returns-in_default c = grind (arith, nat_tests, nothing_begins)

pub returns-in_default-2 : goal.returns-in_default-2
returns-in_default-2 c = grind (arith, nat_tests, begins_by_first)
