-- A device of the code: the reason, decided step by step by the tick's start output and the state after it. `decided_is_reason`
-- of `proofs/` shows that it is the first reason that holds.
use Rattle.std.specs.Prelude.{ℕ, ◌-◌, Bool, cond, not, ltb, eqb}
use Rattle.phase.specs.declared.operation.Kind.{Kind}
use Rattle.phase.specs.declared.operation.Kind.TheVariants.{Off, On}
use Rattle.phase.specs.declared.operation.Timing.{Timing}
use Rattle.phase.specs.declared.operation.Timing.TheVariants.{Definite, Curve}
use Rattle.phase.specs.declared.settings.Settings.{Settings}
use Rattle.phase.specs.declared.state.PhaseState.{PhaseState}
use Rattle.phase.specs.Settings.{trip_level}
use Rattle.why.specs.declared.reason.Reason.{Reason}
use Rattle.why.specs.declared.reason.Reason.TheVariants.{OperationOff, NotStarted, StartOnly, TooFewTicks, SumBelowLevel, Blocked, Tripped}
use Rattle.why.specs.Reason.{delay_of}

abbrev pub trip_reason : ℕ → Reason
trip_reason block = cond (eqb block 1) Blocked Tripped

abbrev pub sum_reason : Timing → Settings → PhaseState → ℕ → Reason
sum_reason Definite settings after block = trip_reason block
sum_reason (Curve rule) settings after block =
    cond (ltb after.sum (trip_level settings)) (SumBelowLevel (trip_level settings - after.sum)) (trip_reason block)

abbrev pub on_reason : Timing → Settings → Bool → PhaseState → ℕ → Reason
on_reason timing settings start after block =
    cond (not start) NotStarted
    (cond (eqb settings.start_only 1) StartOnly
    (cond (ltb after.run (delay_of timing settings)) (TooFewTicks (delay_of timing settings - after.run))
    (sum_reason timing settings after block)))

abbrev pub reason_by : Kind → Settings → Bool → PhaseState → ℕ → Reason
reason_by Off settings start after block = OperationOff
reason_by (On timing) settings start after block = on_reason timing settings start after block
