-- `files::replay::takes_portion` meets its contract: the bytes held and read, against what the output has room for.
-- Assumes nothing.
use Prim.Native.Nat.{◌+◌}
use lib.ListN.{length}
use borrow.Author.Tests.{le-ltb, lt-ltb}
use Rattle.files.specs.Replay.{line_limit}
use Rattle.files.proofs.AnswerLaws.{input_room}
use Rattle.files.proofs.replay.takes_portion.Goals as goal

pub returns-then-held-ge-LINE_LIMIT : goal.returns-then-held-ge-LINE_LIMIT
returns-then-held-ge-LINE_LIMIT c = rw (le-ltb _ line_limit c.if-held-ge-LINE_LIMIT.true)

pub returns : goal.returns
returns c =
    let a = c.args in
    rw (lt-ltb _ line_limit c.if-held-ge-LINE_LIMIT.false, c.input_for.ensures) (input_room a.form (a.held + length a.portion.now) a.room)
