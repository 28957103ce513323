-- What is written is read back: the text of a row, by the reader of the record.
-- Assumes nothing.
use mathlib.Core.Path.{◌≡◌, refl, sym, ◌∙◌}
use mathlib.Core.Bool.{true}
use mathlib.Core.List.{List, ◌∷◌, ◌++◌, append_assoc}
use Prim.Native.Nat.{ℕ, suc, ◌+◌, ◌-◌, ◌^◌, ◌≤◌, ◌<◌}
use native.Mathlib.Omega.{arith}
use lib.ListN.{length, take, drop, replicate, length-take}
use lib.Seq.{sets-eq, drop_at, take-append_seam}
use Rattle.std.specs.Prelude.{Ok}
use Rattle.rows.specs.Row.{last_row, largest_current}
use Rattle.text.specs.Number.{decimal_in}
use Rattle.text.specs.Line.{right_shape, numbers_of, fits_in, spelled}
use Rattle.text.specs.Decimals.{decimals}
use Rattle.rows.proofs.NumberedLaws.{numbered_rest, numbered_passed}
use Rattle.faults.proofs.RightLaws.{right_faultless, faultless_shape}
use Rattle.text.proofs.ShapeLaws.{shape_most, fits_decimal}
use Rattle.text.proofs.DecimalsLaws.{line_shaped, line_numbers, line_most}
use Rattle.records.specs.declared.record_row.RecordRow.{RecordRow}
use Rattle.records.specs.RecordRow.{row_fits, timestamp, field_numbers, record_text, longest_record}
use Rattle.records.specs.Writer.{write_refusal, free_from, written_at, WriteAnswer, write_answer}
use Rattle.records.specs.Reader.{record_widths, longest_read, status_refusal, record_refusal, record_answer}
use Rattle.records.proofs.StatusLaws.{bits_are, bits_back, bits_fit}
use Rattle.records.proofs.WriterLaws.{Fits, fits, fits_row, refused_not, accepted_fits, accepted_place, write_accepted, write_number}

module _ (x : RecordRow) (fit : row_fits x ≡ true) where
  -- the fields fit the reader's widths, and a timestamp fewer
  fields_fit : (w : ℕ) → w ≤ 19 → timestamp x.number < 10 ^ suc w
      → fits_in (6 ∷ suc w ∷ 7 ∷ 7 ∷ 7 ∷ replicate 8 1) (decimals (field_numbers x)) ≡ true
  fields_fit w h k =
      let f = fits x fit in
      fits_decimal 5 x.number _ _ (omega arith) (omega (arith, f.most))
      (fits_decimal w (timestamp x.number) _ _ h k
      (fits_decimal 6 x.l1 _ _ (omega arith) (omega (arith, f.first))
      (fits_decimal 6 x.l2 _ _ (omega arith) (omega (arith, f.second))
      (fits_decimal 6 x.l3 _ _ (omega arith) (omega (arith, f.third))
      (bits_fit 8 x.outputs)))))

  pub record_most : length (record_text x) ≤ longest_record
  unfolding record_text
  record_most = omega (arith, line_most _ (field_numbers x) (omega arith) (fields_fit 8 (omega arith) (omega (arith, (fits x fit).most))))

  all_fit : fits_in record_widths (decimals (field_numbers x)) ≡ true
  all_fit = fields_fit 9 (omega arith) (omega (arith, (fits x fit).most))

  pub record_right : right_shape record_widths (record_text x) ≡ true
  unfolding record_text
  record_right = line_shaped record_widths (field_numbers x) (omega arith) all_fit

  -- the numbers of its fields, the eight bits among them
  pub numbers_back : numbers_of (record_text x) ≡ field_numbers x
  unfolding record_text
  numbers_back = line_numbers record_widths (field_numbers x) (omega arith) all_fit

  pub text_back : x.outputs < 256 → record_answer (record_text x) (x.number - 1) ≡ Ok x
  unfolding record_answer
  text_back byte =
      let next : x.number ≡ x.number - 1 + 1 = omega (arith, (fits x fit).some) in
      let told = numbered_rest record_widths status_refusal (record_text x) (x.number - 1) (right_faultless record_widths (record_text x) (omega arith) record_right) (rw numbers_back next) in
      rw (told, numbers_back, bits_are 8 x.outputs, bits_back 8 x.outputs byte)

-- the longest row
pub most_reached : length (record_text (record { number = last_row; l1 = largest_current; l2 = largest_current; l3 = largest_current; outputs = 255 })) ≡ longest_record
unfolding record_text spelled decimal_in
most_reached = refl

-- the longest line that the reader takes
pub read_most : (s : List ℕ) (last : ℕ) → (record_refusal s last).number ≡ 0 → length s ≤ longest_read
read_most s last e =
    omega (arith, shape_most record_widths s (omega arith) (faultless_shape record_widths s (omega arith) (numbered_passed record_widths status_refusal s last e).shape))

-- a row that fits is accepted where the longest has room
pub write_fits : (out : List ℕ) (at : ℕ) (x : RecordRow) → Fits x → at + longest_record ≤ length out → write_answer out at x ≡ written_at out at (record_text x)
write_fits out at x f h =
    write_accepted out at x (refused_not x (free_from (length out) at) (fits_row x f) (omega (arith, record_most x (fits_row x f))))

-- ---- the bytes written

-- those from the place of a write to the place after it
abbrev pub bytes_written : ℕ → WriteAnswer → List ℕ
bytes_written at w = take (w.answer.place - at) (drop at w.buffer)

stored : (out : List ℕ) (at : ℕ) (xs : List ℕ) → at + length xs ≤ length out → bytes_written at (written_at out at xs) ≡ xs
stored out at xs h =
    let front : length (take at out) ≡ at = rw length-take (omega arith) in
    let long : at + length xs - at ≡ length xs = omega arith in
    rw (long, sets-eq xs out at h, append_assoc (take at out) xs (drop (at + length xs) out), drop_at (take at out) (xs ++ drop (at + length xs) out) at front) (take-append_seam xs (drop (at + length xs) out))

-- READING THE FIELDS BACK: the reader, on exactly the bytes of an accepted write and after the number before, gives the row
pub reading_back : (out : List ℕ) (at : ℕ) (x : RecordRow) → x.outputs < 256 → (write_answer out at x).answer.refusal ≡ 0
    → record_answer (bytes_written at (write_answer out at x)) (x.number - 1) ≡ Ok x
reading_back out at x byte e =
    let none : write_refusal x (free_from (length out) at) ≡ 0 = sym (write_number out at x) ∙ e in
    let room = accepted_place x (free_from (length out) at) (length out) at refl none in
    rw (write_accepted out at x none, stored out at (record_text x) room) (text_back x (accepted_fits x (free_from (length out) at) none) byte)
