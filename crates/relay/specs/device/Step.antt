-- A device of the code: one tick of the three phases, each on its way by the plan.
use Rattle.std.specs.Prelude.{ℕ, ◌*◌, true, ◌≡◌}
use Rattle.phase.specs.declared.settings.Settings.{Settings}
use Rattle.plans.specs.device.Course.{course_of, Remembers}
use Rattle.relay.specs.declared.state.RelayState.{RelayState}
use Rattle.relay.specs.declared.step.Courses.{Courses}
use Rattle.relay.specs.declared.step.Stepped.{Stepped}
use Rattle.relay.specs.State.{phase_of, three, valid_relay}
use Rattle.relay.specs.Tick.{next_relay, outputs_of}

abbrev pub relay_of : Courses → RelayState
relay_of courses = three courses.l1.state courses.l2.state courses.l3.state

-- the phases of a relay, whose last samples were these
abbrev pub courses_of : Settings → RelayState → ℕ → ℕ → ℕ → Courses
courses_of settings relay l1 l2 l3 =
    record {
      l1 = course_of settings (phase_of relay 0) l1;
      l2 = course_of settings (phase_of relay 1) l2;
      l3 = course_of settings (phase_of relay 2) l3;
    }

-- the way begins with the memory of the setting itself
abbrev pub courses_from : Settings → RelayState → Courses
courses_from settings relay =
    let g : ℕ = 100 * settings.start_current in
    courses_of settings relay g g g

-- what a step by the plan of these settings goes by
pub record StepReady (settings : Settings) (courses : Courses) : Type 0 where
  pub valid : valid_relay settings (relay_of courses) ≡ true
  pub l1 : Remembers settings courses.l1
  pub l2 : Remembers settings courses.l2
  pub l3 : Remembers settings courses.l3

abbrev pub relay_step : Settings → RelayState → ℕ → ℕ → ℕ → ℕ → Stepped
relay_step settings relay l1 l2 l3 block =
    record {
      courses = courses_of settings (next_relay settings relay l1 l2 l3) l1 l2 l3;
      outputs = outputs_of settings relay l1 l2 l3 block;
    }
