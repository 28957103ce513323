-- The refusal number of a block byte (01, 'Refusal numbers'), beside those of a tick.
use Rattle.std.specs.Prelude.{ℕ}

-- 14: "a block byte or block field isn't 0 or 1"
abbrev pub wrong_block : ℕ
wrong_block = 14
