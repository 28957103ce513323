-- A device of the code: rows that stand whole in a portion, run one after the other where they stand.
use Rattle.std.specs.Prelude.{◌≡◌, Bool, true, false, ◌&&◌, List, ◌++◌, ℕ, ◌+◌, ◌*◌, ◌≤◌, eqb, length, drop}
use Rattle.checks.specs.Checks.{first_failed}
use Rattle.text.specs.Cutter.{empty_cutter}
use Rattle.text.specs.declared.page.Page.{Page}
use Rattle.text.specs.device.Page.{Put}
use Rattle.phase.specs.declared.settings.Settings.{Settings}
use Rattle.phase.specs.Settings.{settings_refusal}
use Rattle.relay.specs.device.Step.{StepReady, relay_of, courses_from, relay_step}
use Rattle.relay.specs.Tick.{outputs_of, relay_checks}
use Rattle.rows.specs.declared.row.Row.{Row}
use Rattle.steps.specs.Configuration.{Configuration}
use Rattle.steps.specs.declared.output.Form.{Form}
use Rattle.steps.specs.declared.output.Form.TheVariants.{Changes, Record, Explain, ExplainAll}
use Rattle.steps.specs.declared.progress.Stage.{Stage}
use Rattle.steps.specs.declared.progress.Stage.TheVariants.{Opening, Running, Stopped}
use Rattle.steps.specs.declared.progress.Progress.{Progress}
use Rattle.steps.specs.Output.{change_of, spread}
use Rattle.files.specs.declared.ahead.Way.{Way}
use Rattle.files.specs.declared.ahead.Ahead.{Ahead}
use Rattle.files.specs.declared.replay.Replay.{Replay}
use Rattle.files.specs.Replay.{fed, writes}

-- ---- when

abbrev pub writes_changes : Form → Bool
writes_changes Changes = true
writes_changes Record = false
writes_changes (Explain row) = false
writes_changes ExplainAll = false

abbrev pub is_running : Stage → Bool
is_running Opening = false
is_running Running = true
is_running (Stopped x) = false

abbrev pub is_quick : Form → Progress → Bool
is_quick form p =
    writes_changes form && is_running p.stage && eqb (first_failed (relay_checks p.settings p.relay) 0) 0

-- ---- the way from row to row

abbrev pub way_from : Progress → Way
way_from p = record { courses = courses_from p.settings p.relay; done = p.done; outputs = p.outputs }

abbrev pub progress_on : Configuration → Settings → Way → Progress
progress_on c settings way = record {
  configuration = c;
  stage = Running;
  settings = settings;
  relay = relay_of way.courses;
  done = way.done;
  outputs = way.outputs;
}

abbrev pub byte_at : Settings → Way → Row → ℕ
byte_at settings way x = outputs_of settings (relay_of way.courses) x.sample.l1 x.sample.l2 x.sample.l3 x.sample.block

abbrev pub way_after : Settings → Way → Row → Way
way_after settings way x = record {
  courses = (relay_step settings (relay_of way.courses) x.sample.l1 x.sample.l2 x.sample.l3 x.sample.block).courses;
  done = way.done + 1;
  outputs = byte_at settings way x;
}

abbrev pub change_at : Settings → Way → Row → List ℕ
change_at settings way x = change_of (way.done + 1) (byte_at settings way x) way.outputs

-- what a row goes by
pub record WayReady (settings : Settings) (way : Way) : Type 0 where
  pub step : StepReady settings way.courses
  pub accepted : settings_refusal settings ≡ 0

-- ---- what it comes to

-- a state that holds no line
abbrev pub still : Form → Progress → Replay
still form p = record { form = form; progress = p; cutter = empty_cutter }

-- the state s at the place i of a portion, and s' at j once those bytes were written, give the same
pub record Onward (portion : List ℕ) (i : ℕ) (s : Replay) (j : ℕ) (s' : Replay) (wrote : List ℕ) : Type 0 where
  pub farther : i ≤ j
  pub within : j ≤ length portion
  pub state : fed s (drop i portion) ≡ fed s' (drop j portion)
  pub bytes : writes s (drop i portion) ≡ wrote ++ writes s' (drop j portion)
  pub short : length wrote + spread s.form * i ≤ spread s.form * j

-- rows were run, whatever the configuration: it has no part in them
pub record RowsRan (settings : Settings) (begun : Way) (portion : List ℕ) (from : ℕ) (before after : Page) (r : Ahead Way) : Type 0 where
  pub wrote : List ℕ
  pub on : (c : Configuration) → Onward portion from (still Changes (progress_on c settings begun)) r.next (still Changes (progress_on c settings r.reached)) wrote
  pub put : Put (length wrote) before after wrote

pub record RanAhead (form : Form) (p : Progress) (portion : List ℕ) (from : ℕ) (before after : Page) (r : Ahead Progress) : Type 0 where
  pub wrote : List ℕ
  pub on : Onward portion from (still form p) r.next (still form r.reached) wrote
  pub put : Put (length wrote) before after wrote
