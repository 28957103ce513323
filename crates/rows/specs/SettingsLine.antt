-- The settings line (01, 'Rows and the replay program').
use Rattle.std.specs.Prelude.{List, Result, ℕ, length, get_or}
use Rattle.phase.specs.declared.settings.Settings.{Settings}
use Rattle.phase.specs.Settings.{settings_of, settings_refusal}
use Rattle.rows.specs.declared.refusal.Refusal.{Refusal}
use Rattle.rows.specs.Refusal.{line_refusal, answer_by, refused_with}
use Rattle.rows.specs.Widths.{settings_widths}
use Rattle.text.specs.Line.{numbers_of}
use Rattle.faults.specs.Fault.{shape_of}

-- the settings of a line's numbers
abbrev pub settings_in : List ℕ → Settings
settings_in ns =
    settings_of (get_or ns 0 0) (get_or ns 1 0) (get_or ns 2 0) (get_or ns 3 0) (get_or ns 4 0) (get_or ns 5 0) (get_or ns 6 0)

-- by its shape ("This holds for the settings line too"), else the lowest of 1 to 7 that applies
unfoldable pub settings_line_refusal : List ℕ → Refusal
settings_line_refusal s = line_refusal (length settings_widths) (shape_of settings_widths s) s (settings_refusal (settings_in (numbers_of s)))

-- what the reader of the settings line answers
unfoldable pub settings_line_answer : List ℕ → Result Settings Refusal
settings_line_answer s = answer_by (settings_line_refusal s) (settings_in (numbers_of s))

-- the paper's numbers for each case of the answer
abbrev pub settings_line_numbers : Result Settings Refusal → Refusal
settings_line_numbers x = refused_with x
