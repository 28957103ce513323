-- The power rule computed over the whole of the constant table.
-- Assumes nothing.
use mathlib.Core.Bool.{true}
use mathlib.Core.Path.{◌≡◌, refl}
use Rattle.powers.specs.declared.power_table.TheConstants.{X_TABLE}
use Rattle.powers.proofs.PowerRule.{is_least}
use Rattle.powers.proofs.Tables.{every_entry}

pub table_rule : every_entry is_least 101 X_TABLE ≡ true
table_rule = refl
