-- A row that begins with its number (01, 'Rows and the replay program'): what it is refused with.
use Rattle.std.specs.Prelude.{List, [], ◌∷◌, Result, ℕ, ◌+◌, eqb, length, get_or}
use Rattle.checks.specs.Checks.{Check, check, first_failed}
use Rattle.rows.specs.declared.refusal.Refusal.{Refusal}
use Rattle.rows.specs.Refusals.{wrong_number}
use Rattle.rows.specs.Refusal.{line_refusal, answer_by}
use Rattle.text.specs.Line.{numbers_of}
use Rattle.faults.specs.Fault.{shape_of}
use Rattle.faults.specs.Reader.{placed}

-- after a row of number `last`: 13 where the number "isn't one more than the last"
abbrev pub numbered_checks : List ℕ → ℕ → List Check
numbered_checks ns last = check (eqb (get_or ns 0 0) (last + 1)) wrong_number ∷ []

-- in a row of right shape; then what its numbers are refused with
unfoldable pub numbered_refusal : List ℕ → (List ℕ → ℕ) → List ℕ → ℕ → Refusal
numbered_refusal widths rest s last =
    line_refusal (length widths) (shape_of widths s) s (first_failed (numbered_checks (numbers_of s) last) (rest (numbers_of s)))

-- what the reader of such rows answers where nothing is asked of the other numbers: the numbers
unfoldable pub numbered_answer : List ℕ → List ℕ → ℕ → Result (List ℕ) Refusal
numbered_answer widths s last = answer_by (numbered_refusal widths (λ ns. 0) s last) (placed (numbers_of s))
