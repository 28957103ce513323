-- The refusal number of the relay (01, 'Refusal numbers'), beside those of a phase.
use Rattle.std.specs.Prelude.{ℕ}

-- 14: "a block byte or block field isn't 0 or 1"
abbrev pub wrong_block : ℕ
wrong_block = 14
