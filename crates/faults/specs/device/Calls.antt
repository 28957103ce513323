-- A device of code and proofs: what the reader asks of its caller.
use Rattle.std.specs.Prelude.{◌≡◌, true, List, ℕ, ◌≤◌, length}
use Rattle.text.specs.Line.{field_limit}
use Rattle.faults.specs.Reader.{narrow}

-- widths that the reader of lines takes
pub record Readable (widths : List ℕ) : Type 0 where
  pub some : 1 ≤ length widths
  pub few : length widths ≤ field_limit
  pub each : narrow widths ≡ true
