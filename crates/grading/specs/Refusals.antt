-- The refusal numbers of grading (02, E9), after those in use.
use Rattle.std.specs.Prelude.{ℕ}

-- 34: "operations 0 and 1 or start only on"
abbrev pub not_graded : ℕ
not_graded = 34

-- 35: "another ratio"
abbrev pub wrong_ratio : ℕ
wrong_ratio = 35

-- 36: "a list without room for 1,900 entries"
abbrev pub short_list : ℕ
short_list = 36
