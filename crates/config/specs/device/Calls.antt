-- A device of code and proofs: what the functions of the crate hand on, each fact by its name.
use Rattle.std.specs.Prelude.{◌≡◌, Bool, true, ◌&&◌, List, [], ◌∷◌, ℕ, ◌+◌, ◌≤◌, length, drop}
use Rattle.text.specs.Line.{comma}
use Rattle.fields.specs.declared.field.Field.{Field}
use Rattle.fields.specs.Marks.{before}
use Rattle.fields.specs.device.Calls.{readable}

unfoldable pub all_readable : List Field → Bool
all_readable [] = true
all_readable (k ∷ ks) = readable k && all_readable ks

-- the field that begins at a place ends at another
pub record FieldEnds (s : List ℕ) (at end : ℕ) : Type 0 where
  pub ended : end ≡ at + length (before comma comma (drop at s))
  pub within : end ≤ length s
