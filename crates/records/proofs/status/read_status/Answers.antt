use native.Mathlib.Omega.{arith}
use lib.ListN.{length}
use Rattle.std.proofs.lemmas.Iterator.Adapters.{YieldsList-from_rev_slice}
use Rattle.std.proofs.lemmas.Iterator.Consumers.{YieldsList-turn}
use Rattle.std.proofs.lemmas.List.{length_push}
use Rattle.records.proofs.StatusLaws.{turn_first, turn_item, turn_down, turn_wrong}
use Rattle.records.proofs.status.read_status.Goals as goal

pub loop-bit-init : goal.loop-bit-init
loop-bit-init c = turn_first _

pub returns-then-bit-gt1 : goal.returns-then-bit-gt1
returns-then-bit-gt1 c =
    let l = c.loop-bit in
    let t = YieldsList-turn (YieldsList-from_rev_slice c.args.fields.now cc) l.yielded _ l.yielded_by _ _ c.in-Some.bit c.in-Some.is c.next.ensures.steps in
    turn_wrong c.args.fields.now _ _ l.byte c.in-Some.bit.now l.invariant (turn_item c.args.fields.now (length l.yielded) _ _ (length_push l.yielded c.in-Some.bit) t) (omega arith)

pub loop-bit-preserved : goal.loop-bit-preserved
loop-bit-preserved c =
    let l = c.loop-bit in
    let t = YieldsList-turn (YieldsList-from_rev_slice c.args.fields.now cc) l.yielded _ l.yielded_by _ _ c.in-Some.bit c.in-Some.is c.next.ensures.steps in
    turn_down c.args.fields.now _ _ l.byte c.in-Some.bit.now l.invariant (turn_item c.args.fields.now (length l.yielded) _ _ (length_push l.yielded c.in-Some.bit) t) (omega arith)
