-- `config::line::last_sample` meets its contract.
-- Assumes nothing.
use native.Mathlib.Omega.{arith}
use lib.ListN.{length}
use Rattle.config.proofs.LineLaws.{right_long, right_fields_law}
use Rattle.fields.proofs.MarkLaws.{part_length}
use Prim.Native.Nat.{◌-◌}
use Rattle.config.proofs.line.last_sample.Goals as goal

pub overflow_sub-n : goal.overflow_sub-n
overflow_sub-n c = right_long _ c.args.l.now c.requires

pub slice_bounds-second_number-end : goal.slice_bounds-second_number-end
slice_bounds-second_number-end c = part_length c.args.l.now (length c.args.l.now - 2) (omega arith)

pub second_number-requires : goal.second_number-requires
second_number-requires c = right_fields_law _ c.args.l.now c.requires
