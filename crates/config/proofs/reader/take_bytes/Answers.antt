use native.Mathlib.Omega.{arith}
use borrow.Author.Rules.{rules}
use Rattle.config.specs.declared.reader.Reader.{Reader}
use Rattle.config.proofs.TakeLaws.{turn_first, piece_cut, turn_held, turn_closed, turn_long, turn_last}
use Rattle.config.proofs.reader.take_bytes.Goals as goal

pub loop-i-init : goal.loop-i-init
loop-i-init c =
    let a = c.args in
    turn_first a.state a.portion.now (search rules) (omega arith)

pub returns-in-Held : goal.returns-in-Held
returns-in-Held c =
    let a = c.args in
    let l = c.loop-i in
    let more = c.loop-i-test.true in
    let k = c.cut-piece in
    let s : Reader = record { reading = l.reading; cutter = l.cutter } in
    turn_held a.state a.portion.now l.i s l.invariant more k.result k.ensures c.in-Held.is

pub loop-i-smaller : goal.loop-i-smaller
loop-i-smaller c =
    let a = c.args in
    let l = c.loop-i in
    let more = c.loop-i-test.true in
    let k = c.cut-piece in
    let s : Reader = record { reading = l.reading; cutter = l.cutter } in
    omega (arith, more, (piece_cut a.state a.portion.now l.i s l.invariant more k.result k.ensures).farther more)

pub loop-i-preserved : goal.loop-i-preserved
loop-i-preserved c =
    let a = c.args in
    let l = c.loop-i in
    let more = c.loop-i-test.true in
    let k = c.cut-piece in
    let s : Reader = record { reading = l.reading; cutter = l.cutter } in
    let t = c.on_line-reading in
    rw c.empty-cutter.ensures (turn_closed a.state a.portion.now l.i s l.invariant more k.result k.ensures c.in-Closed.is t.result (rw c.line.ensures at t.ensures))

pub returns-in-TooLong : goal.returns-in-TooLong
returns-in-TooLong c =
    let a = c.args in
    let l = c.loop-i in
    let more = c.loop-i-test.true in
    let k = c.cut-piece in
    let s : Reader = record { reading = l.reading; cutter = l.cutter } in
    rw (c.empty.ensures, c.malformed.ensures) (turn_long a.state a.portion.now l.i s l.invariant more k.result k.ensures c.in-TooLong.is)

pub returns : goal.returns
returns c =
    let a = c.args in
    let l = c.loop-i in
    turn_last a.state a.portion.now l.i (record { reading = l.reading; cutter = l.cutter }) l.invariant (omega arith)
