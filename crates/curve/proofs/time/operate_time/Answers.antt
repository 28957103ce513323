-- `curve::time::operate_time` meets its contract: the constants of a row are moderate.
-- Assumes nothing.
use native.Mathlib.Omega.{arith}
use Rattle.curve.proofs.TimeLaws.{found_row, inverse_at_most}
use Rattle.curve.proofs.time.operate_time.Goals as goal

pub inverse_part-requires-clause-moderate : goal.inverse_part-requires-clause-moderate
inverse_part-requires-clause-moderate c = (found_row c.args.operation c.in-Some.row c.in-Some.ensures).moderate.k

pub overflow_add-result : goal.overflow_add-result
overflow_add-result c =
    let row = (found_row c.args.operation c.in-Some.row c.in-Some.ensures).moderate in
    let part = inverse_at_most c.in-Some.row.a c.in-Some.row.k c.args.ratio row.k in
    omega (arith, row.c, part, c.inverse_part.ensures)
