-- `files::replay::last_progress` meets its contract: by whether a line has begun.
-- Assumes nothing.
use mathlib.Core.Bool.{Bool}
use mathlib.Core.Path.{sym, ap, ◌∙◌}
use native.Mathlib.Omega.{arith}
use borrow.Author.Tests.{lt-ltb, le-ltb}
use Rattle.text.specs.Cutter.{held_line}
use Rattle.files.specs.Replay.{after_if}
use Rattle.files.proofs.replay.last_progress.Goals as goal

pub returns-then-count-eq0 : goal.returns-then-count-eq0
unfolding after_if
returns-then-count-eq0 c =
    let r = c.args.state in
    ap (λ (t : Bool). after_if t r.progress (held_line r.cutter)) (sym (le-ltb 0 r.cutter.count (omega (arith, c.if-count-eq0.true))))

pub returns : goal.returns
unfolding after_if
returns c =
    let r = c.args.state in
    c.after_held.ensures ∙ ap (λ (t : Bool). after_if t r.progress (held_line r.cutter)) (sym (lt-ltb 0 r.cutter.count (omega (arith, c.if-count-eq0.false))))
