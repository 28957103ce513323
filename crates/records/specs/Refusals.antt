-- The refusal numbers of the record (02, E1), beside those of data rows.
use Rattle.std.specs.Prelude.{ℕ}
use Rattle.relay.specs.Refusals.{wrong_block}

-- "the eight, each 0 or 1, else 14", which is the number of a block field too
abbrev pub wrong_status : ℕ
wrong_status = wrong_block

-- 16: "fewer free bytes than the row needs"
abbrev pub no_room : ℕ
no_room = 16

-- 17: "row number 0 or over 999,999, or a current over 9,999,999"
abbrev pub does_not_fit : ℕ
does_not_fit = 17
