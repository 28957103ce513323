-- From the numbers that were read to the answer of the record's reader.
-- Assumes nothing.
use mathlib.Core.Path.{◌≡◌, refl, sym, ap, ◌∙◌}
use mathlib.Core.Bool.{Bool, true, false, cond}
use mathlib.Core.List.{List}
use Prim.Native.Nat.{ℕ, ◌^◌, ◌<◌}
use native.Mathlib.Omega.{arith}
use lib.ListN.{length, get_or, drop, replicate, length-drop}
use lib.Seq.{drop-append-le, take-append-le}
use Rattle.std.specs.Prelude.{Option, Some, None, Result, Ok, Err}
use Rattle.std.proofs.lemmas.Option.{cond_some}
use Rattle.text.specs.Line.{field_limit, numbers_of}
use Rattle.faults.specs.device.Calls.{Readable}
use Rattle.faults.proofs.LineLaws.{line_front, line_number}
use Rattle.rows.specs.declared.refusal.Refusal.{Refusal}
use Rattle.rows.specs.Refusal.{without_place, accepted}
use Rattle.rows.specs.Numbered.{numbered_answer}
use Rattle.rows.proofs.AnswerNumbers.{answer_numbers, answer_refused}
use Rattle.rows.proofs.NumberedLaws.{NumberedRead, numbered_none, numbered_refused, numbered_read}
use Rattle.checks.specs.Range.{all_bits}
use Rattle.records.specs.declared.record_row.RecordRow.{RecordRow}
use Rattle.records.specs.Refusals.{wrong_status}
use Rattle.records.specs.Status.{byte_of}
use Rattle.records.specs.device.StatusRead.{status_answer}
use Rattle.records.specs.Reader.{record_widths, status_in, record_in, status_refusal, record_refusal, record_answer, record_numbers}

pub record_readable : Readable record_widths
record_readable = record { some = omega arith; few = omega arith; each = refl }

-- both clauses of the reader's contract
pub record_told : (r : Result RecordRow Refusal) (s : List ℕ) (last : ℕ) → r ≡ record_answer s last → (r ≡ record_answer s last) × (record_numbers r ≡ record_refusal s last)
unfolding record_answer
record_told r s last e =
    (e, ap record_numbers e ∙ answer_numbers (record_refusal s last) (record_in (numbers_of s)) (numbered_none record_widths status_refusal s last))

-- the two outcomes of reading the status fields
status_some : (bs : List ℕ) (byte : ℕ) → Some byte ≡ status_answer bs → (all_bits bs ≡ true) × (byte_of bs ≡ byte)
status_some bs byte e = cond_some (all_bits bs) (byte_of bs) byte (sym e)

status_none : (bs : List ℕ) → None ≡ status_answer bs → all_bits bs ≡ false
status_none bs = by_bits (all_bits bs)
  where
    by_bits : (b : Bool) → ◌≡◌ {A = Option ℕ} None (cond b (Some (byte_of bs)) None) → b ≡ false
    by_bits true e = cc
    by_bits false e = refl

module _ (s : List ℕ) (last : ℕ) where
  record_refused : (x : Refusal) → record_refusal s last ≡ x → (x.number ≡ 0 → ⊥) → Err x ≡ record_answer s last
  unfolding record_answer
  record_refused x e k = answer_refused (record_refusal s last) x (record_in (numbers_of s)) e k

  pub record_unread : (x : Refusal) → Err x ≡ numbered_answer record_widths s last → Err x ≡ record_answer s last
  record_unread x e =
      let (same, some) = numbered_refused record_widths status_refusal s last x e in
      record_refused x same some

  module _ (ns : List ℕ) (e : Ok ns ≡ numbered_answer record_widths s last) where
    read : NumberedRead record_widths status_refusal s last ns
    read = numbered_read record_widths status_refusal s last ns e

    record_at : (k : ℕ) → k < length record_widths → (get_or ns k 0 ≡ get_or (numbers_of s) k 0) × (get_or (numbers_of s) k 0 < 10 ^ get_or record_widths k 0)
    record_at k h = line_number record_widths s (omega arith) ns read.line k (omega arith) h

    pub field_fits : (k : ℕ) → k < length record_widths → get_or ns k 0 < 10 ^ get_or record_widths k 0
    field_fits k h = rw (record_at k h).0 (record_at k h).1

    record_status : status_in ns ≡ status_in (numbers_of s)
    record_status =
        let (long, front) = line_front record_widths s (omega arith) ns read.line (omega arith) in
        let rest : List ℕ = drop (length (numbers_of s)) (replicate field_limit 0) in
        rw (front, drop-append-le 5 (numbers_of s) rest (omega (arith, long)), take-append-le 8 (drop 5 (numbers_of s)) rest (simp length-drop (omega (arith, long))))

    status_told : record_refusal s last ≡ without_place (cond (all_bits (status_in ns)) 0 wrong_status)
    status_told = rw record_status read.told

    pub record_wrong_status : None ≡ status_answer (status_in ns) → Err (without_place wrong_status) ≡ record_answer s last
    record_wrong_status b =
        record_refused (without_place wrong_status) (status_told ∙ rw (status_none (status_in ns) b)) (λ k. omega arith)

    pub record_accepted : (byte : ℕ) → Some byte ≡ status_answer (status_in ns)
        → Ok (record { number = get_or ns 0 0; l1 = get_or ns 2 0; l2 = get_or ns 3 0; l3 = get_or ns 4 0; outputs = byte }) ≡ record_answer s last
    unfolding record_answer
    record_accepted byte b =
        let (bits, same) = status_some (status_in ns) byte b in
        let none : record_refusal s last ≡ accepted = status_told ∙ rw bits in
        rw (
          none,
          ← same,
          record_status,
          (record_at 0 (omega arith)).0,
          (record_at 2 (omega arith)).0,
          (record_at 3 (omega arith)).0,
          (record_at 4 (omega arith)).0,
        )
