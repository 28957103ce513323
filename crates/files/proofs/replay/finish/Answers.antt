-- `files::replay::finish` meets its contract: by the room.
-- Assumes nothing.
use mathlib.Core.Path.{sym, ap, ◌∙◌}
use native.Mathlib.Omega.{arith}
use borrow.Author.Rules.{rules}
use lib.ListN.{length}
use lib.Seq.{sets}
use Rattle.steps.specs.Progress.{end_of}
use Rattle.files.proofs.AnswerLaws.{put_inside, finish_cramped, finish_roomy}
use Rattle.files.proofs.replay.finish.Goals as goal

pub returns-then-out-lt-END_ROOM : goal.returns-then-out-lt-END_ROOM
returns-then-out-lt-END_ROOM c =
    let a = c.args in
    let q = finish_cramped a.state (length a.out.now) c.if-out-lt-END_ROOM.true in
    record { written = ap length (sym q); output = ap (sets a.out.now 0) (sym q); within = omega arith }

pub returns : goal.returns
returns c =
    let a = c.args in
    let put = c.on_end.ensures in
    let q = finish_roomy a.state (length a.out.now) (omega arith) ∙ ap end_of (sym c.last_progress.ensures) in
    record {
      written = omega (arith, put.place_after, ap length q);
      output = search rules ∙ put.output ∙ ap (sets a.out.now 0) (sym q);
      within = put_inside put (omega arith) _ (search rules);
    }
