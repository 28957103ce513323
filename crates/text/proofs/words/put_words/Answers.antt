-- `text::words::put_words` meets its contract.
-- Assumes nothing.
use mathlib.Core.Path.{refl}
use Rattle.text.proofs.StoreLaws.{sets_part}
use Rattle.text.proofs.words.put_words.Goals as goal

pub returns : goal.returns
returns c =
    let a = c.args in
    record { place_after = refl; output = rw c.copy_from_slice.ensures.after (sets_part a.out.now a.at a.words.now c.requires) }
