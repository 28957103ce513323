-- A device of the code: the buffer and the place in it, which go from call to call.
use Rattle.std.specs.Prelude.{◌≡◌, List, ℕ, ◌+◌, ◌≤◌, length}
use Rattle.std.proofs.lemmas.List.Edits.{sets}
use Rattle.text.specs.declared.page.Page.{Page}

-- these bytes, at most `room`, were written at the place and nothing else, and the place after them is the next
pub record Put (room : ℕ) (before after : Page) (bytes : List ℕ) : Type 0 where
  pub same_buffer : after.out.ghost_name ≡ before.out.ghost_name
  pub as_long : length after.out.now ≡ length before.out.now
  pub place_after : after.at ≡ before.at + length bytes
  pub output : after.out.now ≡ sets before.out.now before.at bytes
  pub short : length bytes ≤ room
