use native.Mathlib.Omega.{arith}
use borrow.Author.Rules.{rules}
use Rattle.files.specs.declared.replay.Replay.{Replay}
use Rattle.files.proofs.AheadLaws.{turn_ahead, turn_room}
use Rattle.files.proofs.FeedLaws.{turn_first, taken, line_room_law, turn_held, turn_closed, turn_long, turn_last}
use Rattle.files.proofs.replay.feed_bytes.Goals as goal

pub loop-i-init : goal.loop-i-init
loop-i-init c =
    let a = c.args in
    turn_first a.state a.portion.now a.page.now (search rules) (omega arith)

pub returns-in-Held : goal.returns-in-Held
returns-in-Held c =
    let a = c.args in
    let l = c.loop-i in
    let more = c.loop-i-test.true in
    let k = c.cut-piece in
    let s : Replay = record { form = a.state.form; progress = l.progress; cutter = l.cutter } in
    turn_held a.state a.portion.now a.page.now l.i s l.page l.invariant more k.result k.ensures c.in-Held.is

pub on_line-after-requires : goal.on_line-after-requires
on_line-after-requires c =
    let a = c.args in
    let l = c.loop-i in
    let more = c.loop-i-test.true in
    let k = c.cut-piece in
    let s : Replay = record { form = a.state.form; progress = l.progress; cutter = l.cutter } in
    rw (c.line.ensures) (omega (arith, line_room_law a.state a.portion.now a.page.now l.i s l.page l.invariant more k.result k.ensures, c.requires.1, l.invariant.as_long))

pub run_ahead-ahead-requires : goal.run_ahead-ahead-requires
run_ahead-ahead-requires c =
    let a = c.args in
    let l = c.loop-i in
    let more = c.loop-i-test.true in
    let k = c.cut-piece in
    let s : Replay = record { form = a.state.form; progress = l.progress; cutter = l.cutter } in
    let t = c.on_line-after in
    let closed = turn_closed a.state a.portion.now a.page.now l.i s l.page l.invariant more k.result k.ensures t.result t.new.page (rw c.line.ensures at t.ensures.progress) (rw c.line.ensures at t.ensures.wrote) c.in-Closed.is in
    (closed.within, turn_room _ _ _ _ _ _ closed c.requires.1)

pub loop-i-smaller : goal.loop-i-smaller
loop-i-smaller c =
    let a = c.args in
    let l = c.loop-i in
    let more = c.loop-i-test.true in
    let k = c.cut-piece in
    let s : Replay = record { form = a.state.form; progress = l.progress; cutter = l.cutter } in
    let ran = c.run_ahead-ahead.ensures in
    omega (arith, more, ran.on.farther, ran.on.within, (taken a.state a.portion.now a.page.now l.i s l.page l.invariant more k.result k.ensures).farther more)

pub loop-i-preserved : goal.loop-i-preserved
loop-i-preserved c =
    let a = c.args in
    let l = c.loop-i in
    let more = c.loop-i-test.true in
    let k = c.cut-piece in
    let s : Replay = record { form = a.state.form; progress = l.progress; cutter = l.cutter } in
    let t = c.on_line-after in
    let closed = turn_closed a.state a.portion.now a.page.now l.i s l.page l.invariant more k.result k.ensures t.result t.new.page (rw c.line.ensures at t.ensures.progress) (rw c.line.ensures at t.ensures.wrote) c.in-Closed.is in
    rw c.empty-cutter.ensures (turn_ahead _ _ _ _ _ _ _ _ closed c.run_ahead-ahead.ensures)

pub on_line-requires : goal.on_line-requires
on_line-requires c =
    let a = c.args in
    let l = c.loop-i in
    let more = c.loop-i-test.true in
    let k = c.cut-piece in
    let s : Replay = record { form = a.state.form; progress = l.progress; cutter = l.cutter } in
    rw (c.line-in-TooLong.ensures) (omega (arith, line_room_law a.state a.portion.now a.page.now l.i s l.page l.invariant more k.result k.ensures, c.requires.1, l.invariant.as_long))

pub returns-in-TooLong : goal.returns-in-TooLong
returns-in-TooLong c =
    let a = c.args in
    let l = c.loop-i in
    let more = c.loop-i-test.true in
    let k = c.cut-piece in
    let s : Replay = record { form = a.state.form; progress = l.progress; cutter = l.cutter } in
    let t = c.on_line in
    rw c.empty.ensures
    (turn_long a.state a.portion.now a.page.now l.i s l.page l.invariant more k.result k.ensures t.result t.new.page (rw c.line-in-TooLong.ensures at t.ensures.progress) (rw c.line-in-TooLong.ensures at t.ensures.wrote) c.in-TooLong.is)

pub returns : goal.returns
returns c =
    let a = c.args in
    let l = c.loop-i in
    let s : Replay = record { form = a.state.form; progress = l.progress; cutter = l.cutter } in
    turn_last a.state a.portion.now a.page.now l.i s l.page l.invariant (omega arith)
