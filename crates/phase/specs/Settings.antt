-- The settings (01, 'Settings').
use Rattle.std.specs.Prelude.{ℕ, ◌*◌, ◌^◌, List, [], ◌∷◌}
use Rattle.checks.specs.Checks.{Check, check, lowest}
use Rattle.checks.specs.Range.{in_range}
use Rattle.phase.specs.declared.settings.Settings.{Settings}

-- the seven settings, in the order of the table
abbrev pub settings_of : ℕ → ℕ → ℕ → ℕ → ℕ → ℕ → ℕ → Settings
settings_of operation start_current time_multiplier minimum_delay definite_delay reset_time start_only =
    record {
      operation = operation;
      start_current = start_current;
      time_multiplier = time_multiplier;
      minimum_delay = minimum_delay;
      definite_delay = definite_delay;
      reset_time = reset_time;
      start_only = start_only;
    }

-- the table, row by row; 1 to 7: "the setting in that row of the table above is outside its range".
-- "All are checked, whatever the operation."
abbrev pub settings_checks : Settings → List Check
settings_checks settings =
    check (in_range 0 12 settings.operation) 1
    ∷ check (in_range 10 3000 settings.start_current) 2
    ∷ check (in_range 5 1500 settings.time_multiplier) 3
    ∷ check (in_range 40 60000 settings.minimum_delay) 4
    ∷ check (in_range 40 60000 settings.definite_delay) 5
    ∷ check (in_range 60 60000 settings.reset_time) 6
    ∷ check (in_range 0 1 settings.start_only) 7
    ∷ []

-- what the settings check answers
unfoldable pub settings_refusal : Settings → ℕ
settings_refusal settings = lowest (settings_checks settings)

-- "The trip level is M x 10^9."
abbrev pub trip_level : Settings → ℕ
trip_level settings = settings.time_multiplier * 10 ^ 9
