-- The refusal number that only a replay gives (02, E4), beside those of rows, settings line and configuration.
use Rattle.std.specs.Prelude.{ℕ}

-- 28: "The last sample number must equal the rows done"
abbrev pub wrong_last_sample : ℕ
wrong_last_sample = 28
