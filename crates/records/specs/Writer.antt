-- The writer of the record (02, E1).
use Rattle.std.specs.Prelude.{cond, List, [], ◌∷◌, ℕ, ◌+◌, ◌-◌, leb, eqb, length}
use Rattle.std.proofs.lemmas.List.Edits.{sets}
use Rattle.checks.specs.Checks.{Check, check, first_failed}
use Rattle.records.specs.declared.record_row.RecordRow.{RecordRow}
use Rattle.records.specs.declared.writer.RowWritten.{RowWritten}
use Rattle.records.specs.Refusals.{no_room, does_not_fit}
use Rattle.records.specs.RecordRow.{row_fits, record_text}

-- "Refusal 16: fewer free bytes than the row needs .. 17, looked at first"
abbrev pub write_checks : RecordRow → ℕ → List Check
write_checks x free = check (row_fits x) does_not_fit ∷ check (leb (length (record_text x)) free) no_room ∷ []

-- by how many bytes are free
unfoldable pub write_refusal : RecordRow → ℕ → ℕ
write_refusal x free = first_failed (write_checks x free) 0

-- "a place past the end leaves none": less than 0 is 0
abbrev pub free_from : ℕ → ℕ → ℕ
free_from long at = long - at

-- what a write answers, and what the lent buffer holds afterwards
pub record WriteAnswer : Type 0 where
  pub answer : RowWritten
  pub buffer : List ℕ

-- "each row goes straight after the last one written in it; bytes past it stay"
abbrev pub written_at : List ℕ → ℕ → List ℕ → WriteAnswer
written_at out at text = record { answer = record { refusal = 0; place = at + length text }; buffer = sets out at text }

-- a refused write leaves place and buffer as they were
abbrev pub refused_at : ℕ → List ℕ → ℕ → WriteAnswer
refused_at refusal out at = record { answer = record { refusal = refusal; place = at }; buffer = out }

unfoldable pub write_answer : List ℕ → ℕ → RecordRow → WriteAnswer
write_answer out at x =
    cond (eqb (write_refusal x (free_from (length out) at)) 0)
    (written_at out at (record_text x))
    (refused_at (write_refusal x (free_from (length out) at)) out at)
