-- The configuration that may come with a recording (02, E4), and what it changes in the replay.
use Rattle.std.specs.Prelude.{cond, ℕ, eqb, Option, Some, None, Result, Ok, Err}
use Rattle.config.specs.declared.reader.Fault.{Fault}
use Rattle.steps.specs.declared.progress.Stage.{Stage}
use Rattle.steps.specs.declared.progress.Stage.TheVariants.{Running, Stopped}
use Rattle.rows.specs.declared.refusal.Refusal.{Refusal}
use Rattle.rows.specs.Refusal.{without_place}
use Rattle.steps.specs.Refusals.{wrong_last_sample}

-- none, or what the reader of one answered
abbrev pub Configuration : Type 0
Configuration = Option (Result ℕ Fault)

-- "In the replay a refused file gives only `end,0,` and its number, looked at after the settings line."
abbrev pub after_settings : Configuration → Stage
after_settings None = Running
after_settings (Some (Ok last)) = Running
after_settings (Some (Err x)) = Stopped (without_place x.refusal)

-- "The last sample number must equal the rows done, else an end line that would carry 0 carries 28": by the rows done and what it
-- would carry
abbrev pub last_refusal : Configuration → ℕ → Refusal → Refusal
last_refusal None done refusal = refusal
last_refusal (Some (Ok last)) done refusal =
    cond (eqb refusal.number 0) (cond (eqb last done) refusal (without_place wrong_last_sample)) refusal
last_refusal (Some (Err x)) done refusal = refusal
