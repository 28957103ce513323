-- A device of code and proofs: what the functions of the crate hand on.
use Rattle.std.specs.Prelude.{ℕ, ◌+◌, ◌≤◌, ◌<◌}
use Rattle.rows.specs.declared.row.Row.{Row}
use Rattle.rows.specs.Row.{last_row, largest_current}
use Rattle.steps.specs.declared.output.Form.{Form}
use Rattle.steps.specs.Output.{note_room}

-- the row after `done` rows can be noted: none of its numbers is too large, and the output has room
pub record Notable (form : Form) (done : ℕ) (x : Row) (at room : ℕ) : Type 0 where
  pub number : done < last_row
  pub first : x.sample.l1 ≤ largest_current
  pub second : x.sample.l2 ≤ largest_current
  pub third : x.sample.l3 ≤ largest_current
  pub free : at + note_room form ≤ room
