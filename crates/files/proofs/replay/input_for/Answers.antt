-- `files::replay::input_for` meets its contract: by the form.
-- Assumes nothing.
use native.Mathlib.Omega.{arith}
use Rattle.files.proofs.replay.input_for.Goals as goal

pub returns-in-Changes : goal.returns-in-Changes
returns-in-Changes c = rw c.in-Changes.is (omega arith)

pub returns-in-Record : goal.returns-in-Record
returns-in-Record c = rw c.in-Record.is
