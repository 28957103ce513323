-- `config::reader::last_reading` meets its contract: by whether a line has begun.
-- Assumes nothing.
use mathlib.Core.Bool.{Bool}
use mathlib.Core.Path.{sym, ap, ◌∙◌}
use native.Mathlib.Omega.{arith}
use borrow.Author.Tests.{lt-ltb, le-ltb}
use Rattle.config.specs.Reader.{malformed_if}
use Rattle.config.proofs.reader.last_reading.Goals as goal

pub returns-then-state-eq0 : goal.returns-then-state-eq0
unfolding malformed_if
returns-then-state-eq0 c =
    let r = c.args.state in
    ap (λ (t : Bool). malformed_if t r.reading) (sym (le-ltb 0 r.cutter.count (omega arith)))

pub returns-else-state-eq0 : goal.returns-else-state-eq0
unfolding malformed_if
returns-else-state-eq0 c =
    let r = c.args.state in
    c.malformed.ensures ∙ ap (λ (t : Bool). malformed_if t r.reading) (sym (lt-ltb 0 r.cutter.count (omega arith)))
