-- `border::check::oc_check_settings` meets its contract.
-- Assumes nothing.
use mathlib.Core.Path.{◌∙◌, ap}
use Rattle.phase.specs.Settings.{settings_refusal}
use Rattle.border.proofs.check.oc_check_settings.Goals as goal

pub returns : goal.returns
returns c = c.check.ensures ∙ ap settings_refusal c.settings_of-settings.ensures
