-- `powers::power_table::x_in_table` meets its contract: the rule is computed over the whole table.
-- Assumes nothing.
use native.Mathlib.Omega.{arith}
use Rattle.checks.proofs.Tests.{is_in_range}
use Rattle.powers.specs.declared.power_table.TheConstants.{X_TABLE}
use Rattle.powers.proofs.PowerRule.{table_holds_X}
use Rattle.powers.proofs.PowerTable.{table_rule}
use Rattle.powers.proofs.power_table.x_in_table.Goals as goal

pub returns-in-101-to-2000 : goal.returns-in-101-to-2000
returns-in-101-to-2000 c =
    let m = c.args.ratio in
    rw (is_in_range 101 2000 m (omega arith) (omega arith)) (table_holds_X X_TABLE m (omega arith) (omega arith) table_rule)
