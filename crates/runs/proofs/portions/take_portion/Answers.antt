-- `runs::portions::take_portion` meets its contract: a sound state takes a portion that the output has room for.
-- Assumes nothing.
use mathlib.Core.Path.{ap, ◌∙◌}
use lib.ListN.{length}
use lib.Seq.{sets}
use Rattle.files.proofs.AnswerLaws.{sound_answer, sound_writes}
use Rattle.runs.proofs.portions.take_portion.Goals as goal

pub returns : goal.returns
returns c =
    let a = c.args in
    let (sound, room) = c.requires in
    let fed = c.feed.ensures in
    record {
      fed = sound_answer a.state a.portion.now (length a.out.now) c.feed.result sound room fed.answer;
      output = fed.output ∙ ap (sets a.out.now 0) (sound_writes a.state a.portion.now (length a.out.now) sound room);
      within = fed.within;
    }
