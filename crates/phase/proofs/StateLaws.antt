-- The phase state: equal parts are equal states, and what the group of operations tells of a valid one.
-- Assumes nothing.
use Prim.Native.Nat.{ℕ}
use mathlib.Core.Bool.{Bool, true, not, ◌&&◌, ◌||◌}
use mathlib.Core.Path.{◌≡◌}
use borrow.Author.Tests.{eqb-true, not-true}
use lib.Dec.{ltb, eqb}
use Rattle.checks.proofs.Tests.{both_true}
use Rattle.phase.specs.declared.state.PhaseState.{PhaseState}
use Rattle.phase.specs.State.{clear_state, valid_definite, valid_off}

pub same_state : {s s' r r' d d' : ℕ} {b b' : Bool} → s ≡ s' → r ≡ r' → d ≡ d' → b ≡ b' → ◌≡◌ {A = PhaseState} (record { sum = s; run = r; drop = d; started = b }) (record { sum = s'; run = r'; drop = d'; started = b' })
same_state a b c d = cc

pub definite_sum : (state : PhaseState) → valid_definite state ≡ true → state.sum ≡ 0
definite_sum state e =
    eqb-true state.sum 0 (both_true (eqb state.sum 0) (not state.started || (eqb state.drop 0 && ltb 0 state.run)) e).0

pub off_is_clear : (state : PhaseState) → valid_off state ≡ true → state ≡ clear_state
off_is_clear state e =
    let (front, off) = both_true (eqb state.sum 0 && eqb state.run 0 && eqb state.drop 0) (not state.started) e in
    let (counted, drop) = both_true (eqb state.sum 0 && eqb state.run 0) (eqb state.drop 0) front in
    let (sum, run) = both_true (eqb state.sum 0) (eqb state.run 0) counted in
    same_state (eqb-true state.sum 0 sum) (eqb-true state.run 0 run) (eqb-true state.drop 0 drop) (not-true state.started off)
