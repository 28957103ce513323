-- A device of the code: what the settings come to, by the group of operations. `turned_by` of `proofs/` says what a tick by it is.
use Rattle.std.specs.Prelude.{ℕ, ◌+◌, ◌-◌, ◌*◌, cond, eqb}
use Rattle.phase.specs.declared.operation.Kind.{Kind}
use Rattle.phase.specs.declared.operation.Kind.TheVariants.{Off, On}
use Rattle.phase.specs.declared.operation.ResetRule.{ResetRule}
use Rattle.phase.specs.declared.operation.ResetRule.TheVariants.{Iec, Ansi}
use Rattle.phase.specs.declared.operation.Timing.{Timing}
use Rattle.phase.specs.declared.operation.Timing.TheVariants.{Definite, Curve}
use Rattle.phase.specs.declared.settings.Settings.{Settings}
use Rattle.phase.specs.Operation.{kind_of}
use Rattle.phase.specs.Settings.{trip_level}
use Rattle.phase.specs.State.{run_limit}
use Rattle.plans.specs.declared.plan.Plan.{Plan}
use Rattle.plans.specs.device.Memo.{top_sample}

-- no count gets so far
abbrev pub no_count : ℕ
no_count = run_limit + 1

abbrev pub level_of : Timing → Settings → ℕ
level_of Definite settings = 0
level_of (Curve rule) settings = trip_level settings

abbrev pub wait_of : Timing → Settings → ℕ
wait_of Definite settings = settings.definite_delay
wait_of (Curve rule) settings = settings.minimum_delay

abbrev pub delay_of : Timing → Settings → ℕ
delay_of timing settings = cond (eqb settings.start_only 0) (wait_of timing settings) no_count

abbrev pub sum_reset_by : ResetRule → Settings → ℕ
sum_reset_by Iec settings = settings.reset_time
sum_reset_by Ansi settings = no_count

abbrev pub sum_reset_of : Timing → Settings → ℕ
sum_reset_of Definite settings = no_count
sum_reset_of (Curve rule) settings = sum_reset_by rule settings

-- the run of a curve is cleared at any drop
abbrev pub run_reset_of : Timing → Settings → ℕ
run_reset_of Definite settings = settings.reset_time
run_reset_of (Curve rule) settings = 0

abbrev pub on_plan : Timing → Settings → Plan
on_plan timing settings =
    record {
      starts_above = 100 * settings.start_current;
      stays_above = 95 * settings.start_current - 1;
      level = level_of timing settings;
      delay = delay_of timing settings;
      sum_reset = sum_reset_of timing settings;
      run_reset = run_reset_of timing settings;
      drop_limit = run_limit;
    }

abbrev pub off_plan : Plan
off_plan =
    record {
      starts_above = top_sample;
      stays_above = top_sample;
      level = 0;
      delay = no_count;
      sum_reset = no_count;
      run_reset = 0;
      drop_limit = 0;
    }

abbrev pub plan_by : Kind → Settings → Plan
plan_by Off settings = off_plan
plan_by (On timing) settings = on_plan timing settings

unfoldable pub plan_of : Settings → Plan
plan_of settings = plan_by (kind_of settings.operation) settings
