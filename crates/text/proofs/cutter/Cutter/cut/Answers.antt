-- `text::cutter::Cutter::cut` meets its contract: by whether the line that has begun has room for a byte more.
-- Assumes nothing.
use native.Mathlib.Omega.{arith}
use Rattle.text.proofs.PieceLaws.{answer_short, answer_full}
use Rattle.text.proofs.cutter.Cutter.cut.Goals as goal

pub returns-then-self-limit : goal.returns-then-self-limit
returns-then-self-limit c = let a = c.args in rw (answer_short a.closer a.limit a.self a.portion.now a.from (omega arith), ← c.min-limit.ensures) c.cut_on.ensures

pub returns-else-self-limit : goal.returns-else-self-limit
returns-else-self-limit c = let a = c.args in rw (answer_full a.closer a.limit a.self a.portion.now a.from (omega arith))
