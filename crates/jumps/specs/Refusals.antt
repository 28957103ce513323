-- The refusal number of a jump (01, 'Refusal numbers'), beside those of a tick.
use Rattle.std.specs.Prelude.{ℕ}

-- 9: "a jump is over 3,600,000 ticks"
abbrev pub jump_too_long : ℕ
jump_too_long = 9
