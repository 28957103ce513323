-- `text::bytes::put_le` meets its contract: the library's eight bytes, as many as are asked for.
-- Assumes nothing.
use native.Mathlib.Omega.{arith}
use Rattle.text.proofs.ByteLaws.{bytes_length, lowest_bytes}
use Rattle.text.proofs.StoreLaws.{sets_part}
use Rattle.text.specs.Bytes.{bytes_le}
use Rattle.text.proofs.bytes.put_le.Goals as goal

pub returns : goal.returns
returns c =
    let a = c.args in
    let long = bytes_length a.n a.v in
    let low = lowest_bytes a.n a.v (omega arith) in
    let part = rw long at (sets_part a.s.now a.at (bytes_le a.n a.v) (omega arith)) in
    rw (c.copy_from_slice.ensures.after, c.to_le_bytes.ensures, low) part
