-- A device of code and proofs: what the functions inside the crate hand on, and what every state keeps that comes from
-- the fresh one.
use Rattle.std.specs.Prelude.{◌≡◌, List, ℕ, length}
use Rattle.text.specs.declared.lines.Closer.TheVariants.{CrLf}
use Rattle.text.specs.declared.page.Page.{Page}
use Rattle.text.specs.device.Calls.{Holds}
use Rattle.text.specs.device.Page.{Put}
use Rattle.files.specs.declared.replay.Replay.{Replay}
use Rattle.files.specs.Replay.{line_limit, fed, writes, portion_room}

-- a portion was fed, and what it wrote stands on the page
pub record PortionFed (r : Replay) (portion : List ℕ) (before after : Page) (x : Replay) : Type 0 where
  pub state : x ≡ fed r portion
  pub put : Put (portion_room r.form r.cutter.count (length portion)) before after (writes r portion)

-- the line held is shorter than a line too long, and is not closed
abbrev pub Sound : Replay → Type 0
Sound r = Holds CrLf line_limit r.cutter
