-- `files::replay::feed` meets its contract: by whether the portion is taken.
-- Assumes nothing.
use mathlib.Core.Path.{◌≡◌, sym, ap, ◌∙◌}
use native.Mathlib.Omega.{arith}
use borrow.Author.Rules.{rules}
use lib.ListN.{length}
use lib.Seq.{sets}
use Rattle.files.specs.Replay.{writes}
use Rattle.files.proofs.AnswerLaws.{put_inside, taken_short, taken_room, taken_answer, taken_writes, untaken_answer, untaken_writes}
use Rattle.files.proofs.replay.feed.Goals as goal

pub returns-then-not-takes_portion : goal.returns-then-not-takes_portion
returns-then-not-takes_portion c =
    let a = c.args in
    let e = sym c.takes_portion.ensures ∙ c.if-not-takes_portion.true in
    record {
      answer = sym (untaken_answer a.state a.portion.now (length a.out.now) e);
      output = ap (sets a.out.now 0) (sym (untaken_writes a.state a.portion.now (length a.out.now) e));
      within = omega arith;
    }

pub feed_bytes-state-requires : goal.feed_bytes-state-requires
feed_bytes-state-requires c =
    let a = c.args in
    let e = sym c.takes_portion.ensures ∙ c.if-not-takes_portion.false in
    (taken_short a.state a.portion.now (length a.out.now) e, omega (arith, taken_room a.state a.portion.now (length a.out.now) e))

pub returns : goal.returns
returns c =
    let a = c.args in
    let e = sym c.takes_portion.ensures ∙ c.if-not-takes_portion.false in
    let fed = c.feed_bytes-state.ensures in
    let room = taken_room a.state a.portion.now (length a.out.now) e in
    let place : c.feed_bytes-state.new.page.at ≡ length (writes a.state a.portion.now) = omega (arith, fed.put.place_after) in
    record {
      answer = rw (fed.state, place) (sym (taken_answer a.state a.portion.now (length a.out.now) e));
      output = search rules ∙ fed.put.output ∙ ap (sets a.out.now 0) (sym (taken_writes a.state a.portion.now (length a.out.now) e));
      within = put_inside fed.put (omega (arith, room)) _ (search rules);
    }
