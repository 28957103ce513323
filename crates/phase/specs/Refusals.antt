-- The refusal numbers of one phase (01, 'Refusal numbers'). 1 to 7 are the rows of the settings table.
use Rattle.std.specs.Prelude.{ℕ}

-- 8: "a state isn't valid"
abbrev pub invalid_state : ℕ
invalid_state = 8
