-- A device of the code: the first of n equal ticks with the phase trip on, or 0, in closed form. `first_trip_closed` of
-- `proofs/` shows that it is the walked definition.
use Rattle.std.specs.Prelude.{ℕ, ◌+◌, ◌-◌, ◌/◌, max, Bool, cond, ◌&&◌, ltb, leb, eqb}
use Rattle.curve.specs.Ratio.{ratio_of}
use Rattle.phase.specs.declared.operation.Kind.{Kind}
use Rattle.phase.specs.declared.operation.Kind.TheVariants.{Off, On}
use Rattle.phase.specs.declared.operation.Timing.{Timing}
use Rattle.phase.specs.declared.operation.Timing.TheVariants.{Definite, Curve}
use Rattle.phase.specs.declared.settings.Settings.{Settings}
use Rattle.phase.specs.declared.state.PhaseState.{PhaseState}
use Rattle.phase.specs.Settings.{trip_level}
use Rattle.phase.specs.Tick.{gain_at}

-- tick k where that is one of the n
abbrev pub one_of : ℕ → ℕ → ℕ
one_of n k = cond (leb k n) k 0

-- the first tick at which a count has reached a delay
abbrev pub wait_for : ℕ → ℕ → ℕ
wait_for delay run = max 1 (delay - run)

-- the ticks that a sum needs to the level: the difference divided by the gain, rounded up
abbrev pub turns : ℕ → ℕ → ℕ → ℕ
turns level sum gain = (level - sum + (gain - 1)) / gain

-- at a ratio of 100 or less a sum stands still: one at the level waits for the delay alone, and one below it never gets there
abbrev pub first_full : ℕ → ℕ → ℕ → ℕ → ℕ → ℕ → ℕ
first_full n wait level sum ratio gain =
    cond (leb ratio 100) (cond (ltb sum level) 0 (one_of n wait)) (one_of n (max wait (turns level sum gain)))

abbrev pub first_due : Timing → Settings → ℕ → ℕ → PhaseState → ℕ
first_due Definite settings g n state = one_of n (wait_for settings.definite_delay state.run)
first_due (Curve rule) settings g n state =
    first_full n (wait_for settings.minimum_delay state.run) (trip_level settings) state.sum (ratio_of g settings.start_current) (gain_at settings g)

abbrev pub first_trip_by : Kind → Bool → Settings → ℕ → ℕ → PhaseState → ℕ
first_trip_by Off is_started settings g n state = 0
first_trip_by (On timing) is_started settings g n state =
    cond (is_started && eqb settings.start_only 0) (first_due timing settings g n state) 0
