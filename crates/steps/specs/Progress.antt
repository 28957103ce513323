-- How far a replay has come, line by line (01, 'Rows and the replay program'). The form decides what rows write, and nothing
-- else.
use Rattle.std.specs.Prelude.{cond, List, [], ℕ, ◌+◌, eqb, Result, Ok, Err}
use Rattle.phase.specs.declared.settings.Settings.{Settings}
use Rattle.relay.specs.declared.tick.RelayTicked.{RelayTicked}
use Rattle.relay.specs.State.{clear_relay}
use Rattle.relay.specs.Tick.{relay_tick_answer}
use Rattle.rows.specs.declared.row.Row.{Row}
use Rattle.steps.specs.declared.output.Form.{Form}
use Rattle.steps.specs.declared.progress.Stage.{Stage}
use Rattle.steps.specs.declared.progress.Stage.TheVariants.{Opening, Running, Stopped}
use Rattle.steps.specs.declared.progress.Progress.{Progress}
use Rattle.rows.specs.declared.refusal.Refusal.{Refusal}
use Rattle.rows.specs.Refusal.{without_place, accepted}
use Rattle.rows.specs.Row.{row_answer}
use Rattle.rows.specs.SettingsLine.{settings_line_refusal, settings_line_answer}
use Rattle.steps.specs.Configuration.{Configuration, after_settings, last_refusal}
use Rattle.steps.specs.Output.{note_of, end_line}

-- no settings have been read yet
abbrev pub no_settings : Settings
no_settings = record {
  operation = 0;
  start_current = 0;
  time_multiplier = 0;
  minimum_delay = 0;
  definite_delay = 0;
  reset_time = 0;
  start_only = 0;
}

-- "The program starts from the clear state"; the byte before the first is "0 at first"
abbrev pub fresh_progress : Configuration → Progress
fresh_progress c = record {
  configuration = c;
  stage = Opening;
  settings = no_settings;
  relay = clear_relay;
  done = 0;
  outputs = 0;
}

-- "After a refusal it stops."
abbrev pub stopped : Refusal → Progress → Progress
stopped x p = record {
  configuration = p.configuration;
  stage = Stopped x;
  settings = p.settings;
  relay = p.relay;
  done = p.done;
  outputs = p.outputs;
}

-- the settings line, accepted or refused: after an accepted one the configuration is looked at
abbrev pub opened : Progress → Result Settings Refusal → Progress
opened p (Ok x) = record {
  configuration = p.configuration;
  stage = after_settings p.configuration;
  settings = x;
  relay = p.relay;
  done = p.done;
  outputs = p.outputs;
}
opened p (Err x) = stopped x p

-- the tick of a row: the relay's decision on its currents and block, from the state that the rows before left
abbrev pub ticked : Progress → Row → RelayTicked
ticked p x = relay_tick_answer p.settings p.relay x.sample.l1 x.sample.l2 x.sample.l3 x.sample.block

-- a row whose tick was accepted is done
abbrev pub row_done : Progress → RelayTicked → Progress
row_done p t = record {
  configuration = p.configuration;
  stage = Running;
  settings = p.settings;
  relay = t.state;
  done = p.done + 1;
  outputs = t.outputs;
}

-- a refused tick stops the replay too: `no_tick_refused` says that none is met from the fresh start
abbrev pub after_tick : Progress → RelayTicked → Progress
after_tick p t = cond (eqb t.refusal 0) (row_done p t) (stopped (without_place t.refusal) p)

-- a row, accepted or refused: only an accepted one ticks
abbrev pub stepped : Progress → Result Row Refusal → Progress
stepped p (Ok x) = after_tick p (ticked p x)
stepped p (Err x) = stopped x p

-- what the tick of a row writes: only one that is done writes anything
abbrev pub wrote_tick : Form → Progress → Row → RelayTicked → List ℕ
wrote_tick form p x t = cond (eqb t.refusal 0) (note_of form p x t) []

abbrev pub noted : Form → Progress → Result Row Refusal → List ℕ
noted form p (Ok x) = wrote_tick form p x (ticked p x)
noted form p (Err x) = []

abbrev pub after_row : Progress → List ℕ → Progress
after_row p l = stepped p (row_answer l p.done)

abbrev pub wrote_row : Form → Progress → List ℕ → List ℕ
wrote_row form p l = noted form p (row_answer l p.done)

-- ---- one line of the input: how far it brings the replay, and what it writes

unfoldable pub after_by : Stage → Progress → List ℕ → Progress
after_by Opening p l = opened p (settings_line_answer l)
after_by Running p l = after_row p l
after_by (Stopped x) p l = p

abbrev pub after_line : Progress → List ℕ → Progress
after_line p l = after_by p.stage p l

unfoldable pub wrote_by : Stage → Form → Progress → List ℕ → List ℕ
wrote_by Opening form p l = []
wrote_by Running form p l = wrote_row form p l
wrote_by (Stopped x) form p l = []

abbrev pub wrote_line : Form → Progress → List ℕ → List ℕ
wrote_line form p l = wrote_by p.stage form p l

-- ---- the end

-- the refusal by the lines alone; an empty input has no settings line, and "an empty input is one with no digit"
unfoldable pub stage_refusal : Stage → Refusal
stage_refusal Opening = settings_line_refusal []
stage_refusal Running = accepted
stage_refusal (Stopped x) = x

-- the refusal, with the configuration's last sample number
abbrev pub end_refusal : Progress → Refusal
end_refusal p = last_refusal p.configuration p.done (stage_refusal p.stage)

-- "then the end line: `end`, rows done, the refusal number"
abbrev pub end_of : Progress → List ℕ
end_of p = end_line p.done (end_refusal p).number
