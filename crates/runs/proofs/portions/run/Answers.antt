use Rattle.std.proofs.Common.{◌≤◌, length, length-take, arith}
use Rattle.files.specs.Replay.{longest_line, portion_room}
use Rattle.files.specs.device.Calls.{Sound}
use Rattle.files.proofs.PortionLaws.{fresh_sound, reached_on, reached_fed, reached_sound, reached_form}
use Rattle.files.proofs.AnswerLaws.{read_less}
use Rattle.std.proofs.lemmas.Result.{err_from_is_err_and}
use Rattle.runs.proofs.portions.run.Goals as goal

pub one_turn-requires : goal.one_turn-requires
one_turn-requires c =
    let sound : Sound c.fresh-state.result = rw c.fresh-state.ensures (fresh_sound c.args.form c.args.configuration) in
    let enough : portion_room c.fresh-state.result.form longest_line (length c.args.portion.now) ≤ length c.args.out.now =
    rw c.fresh-state.ensures c.requires in
    let reached = c.loop.invariant in
    let read = c.read_portion.auto in (
      reached_sound _ _ sound reached,
      rw (reached_form _ _ reached, c.loop.auto.out) (read_less _ longest_line _ (length c.args.portion.now) _ (simp length-take (omega arith)) enough),
    )

pub loop-preserved : goal.loop-preserved
loop-preserved c = reached_on _ _ _ c.loop.invariant (reached_fed c.loop.state c.in_ok-state.state _ c.in_ok-state.ensures)

pub returns-then-has_stopped-has_answered : goal.returns-then-has_stopped-has_answered
returns-then-has_stopped-has_answered c =
    rw c.fresh-state.ensures at (reached_on _ _ _ c.loop.invariant (reached_fed c.loop.state c.in_ok-state.state _ c.in_ok-state.ensures))

-- what the exit of the `?` hands out is the state of the turn
pub returns-in_err-state : goal.returns-in_err-state
returns-in_err-state c =
    let told = err_from_is_err_and c.from_residual-in_err-state.result c.from_residual-in_err-state.ensures.1 in
    let turned = reached_fed c.loop.state c.in_err-state.field-0.0 _ c.in_err-state.ensures in
    rw (told.1, told.2) (rw c.fresh-state.ensures at (reached_on _ _ _ c.loop.invariant turned))
