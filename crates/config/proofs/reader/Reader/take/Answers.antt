-- `config::reader::Reader::take` meets its contract: by whether the line held is too long already.
-- Assumes nothing.
use mathlib.Core.Path.{sym, ap, ◌∙◌}
use mathlib.Core.Bool.{Bool}
use native.Mathlib.Omega.{arith}
use borrow.Author.Tests.{lt-ltb, le-ltb}
use Rattle.config.specs.Reader.{line_limit, taken_if}
use Rattle.config.proofs.reader.Reader.take.Goals as goal

pub returns-then-self-lt-LINE_LIMIT : goal.returns-then-self-lt-LINE_LIMIT
unfolding taken_if
returns-then-self-lt-LINE_LIMIT c =
    let a = c.args in
    c.take_bytes.ensures ∙ ap (λ (t : Bool). taken_if t a.self a.portion.now) (sym (lt-ltb a.self.cutter.count line_limit (omega arith)))

pub returns : goal.returns
unfolding taken_if
returns c =
    let a = c.args in
    rw (c.empty.ensures, c.malformed.ensures)
    (ap (λ (t : Bool). taken_if t a.self a.portion.now) (sym (le-ltb a.self.cutter.count line_limit (omega arith))))
