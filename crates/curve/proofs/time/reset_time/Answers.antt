-- `curve::time::reset_time` meets its contract: the constants of a row are moderate.
-- Assumes nothing.
use native.Mathlib.Omega.{arith}
use Rattle.curve.proofs.TimeLaws.{found_kr, kr_at_most}
use Rattle.curve.proofs.time.reset_time.Goals as goal

pub reset_part-requires-clause-moderate : goal.reset_part-requires-clause-moderate
reset_part-requires-clause-moderate c = kr_at_most c.args.operation c.in-Some.kr (grind (arith, found_kr))
