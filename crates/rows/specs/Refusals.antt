-- The refusal numbers of rows and the settings line (01, 'Refusal numbers'; 02, E5, by which 12 "is retired"), beside those of
-- the settings and the block.
use Rattle.std.specs.Prelude.{ℕ}

-- 13: "a row number isn't one more than the last (the first is 1)"
abbrev pub wrong_number : ℕ
wrong_number = 13

-- 29: "a field with no digit"
abbrev pub no_digit : ℕ
no_digit = 29

-- 30: "a digit too many"
abbrev pub digit_too_many : ℕ
digit_too_many = 30

-- 31: "a byte before the CR that isn't digit or comma"
abbrev pub stray_byte : ℕ
stray_byte = 31

-- 32: "too few or too many fields"
abbrev pub field_count : ℕ
field_count = 32

-- 33: "a missing CR LF or bytes after it"
abbrev pub line_end : ℕ
line_end = 33
