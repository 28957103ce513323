-- What a line is refused with (02, E5): "The answer carries the byte offset in the row and the field".
use Rattle.std.specs.Prelude.{Bool, cond, ◌&&◌, List, Option, Some, None, Result, Ok, Err, ℕ, ◌-◌, eqb, length, get_or}
use Rattle.faults.specs.declared.fault.Flaw.{Flaw}
use Rattle.faults.specs.declared.fault.Flaw.TheVariants.{NoDigit, DigitTooMany, StrayByte, FieldCount, LineEnd}
use Rattle.faults.specs.declared.fault.Fault.{Fault}
use Rattle.text.specs.Number.{is_digit}
use Rattle.text.specs.Line.{lf, right_shape, numbers_of}
use Rattle.rows.specs.declared.refusal.Hint.{Hint}
use Rattle.rows.specs.declared.refusal.Hint.TheVariants.{LineFeed, ByteOrderMark, Semicolon, DataRow}
use Rattle.rows.specs.declared.refusal.Refusal.{Refusal}
use Rattle.rows.specs.Refusals.{no_digit, digit_too_many, stray_byte, field_count, line_end}
use Rattle.rows.specs.Widths.{row_widths, settings_widths}

-- "Each gets its own number after those in use"
abbrev pub flaw_number : Flaw → ℕ
flaw_number NoDigit = no_digit
flaw_number DigitTooMany = digit_too_many
flaw_number StrayByte = stray_byte
flaw_number FieldCount = field_count
flaw_number LineEnd = line_end

-- the line begins with the three bytes of a byte order mark
abbrev pub has_mark : List ℕ → Bool
has_mark s = eqb (get_or s 0 0) 239 && eqb (get_or s 1 0) 187 && eqb (get_or s 2 0) 191

-- LF stands at the fault, right after a digit: CR LF is due
abbrev pub lf_for_cr_lf : List ℕ → Fault → Bool
lf_for_cr_lf s f = eqb (get_or s f.offset 0) lf && is_digit (get_or s (f.offset - 1) 0)

-- a semicolon stands at the fault
abbrev pub semicolon_at : List ℕ → Fault → Bool
semicolon_at s f = eqb (get_or s f.offset 0) 59

-- data row 1 stands where the settings line is due, which alone has so many fields
abbrev pub row_for_settings : ℕ → List ℕ → Bool
row_for_settings fields s = eqb fields (length settings_widths) && (right_shape row_widths s && eqb (get_or (numbers_of s) 0 0) 1)

-- for a person, beside the place in a line of so many fields
abbrev pub hint_of : ℕ → List ℕ → Fault → Option Hint
hint_of fields s f =
    cond (lf_for_cr_lf s f) (Some LineFeed)
    (cond (has_mark s) (Some ByteOrderMark)
    (cond (semicolon_at s f) (Some Semicolon)
    (cond (row_for_settings fields s) (Some DataRow) None)))

abbrev pub misshapen : ℕ → List ℕ → Fault → Refusal
misshapen fields s f = record {
  number = flaw_number f.flaw;
  place = Some (record { offset = f.offset; field = f.field });
  hint = hint_of fields s f;
}

-- any other refusal tells no place
abbrev pub without_place : ℕ → Refusal
without_place n = record { number = n; place = None; hint = None }

-- "0 means accepted"
abbrev pub accepted : Refusal
accepted = without_place 0

-- by its shape, "a line's numbers are looked at only if its shape is right", and what its numbers are refused with
abbrev pub line_refusal : ℕ → Option Fault → List ℕ → ℕ → Refusal
line_refusal fields None s n = without_place n
line_refusal fields (Some f) s n = misshapen fields s f

-- what a line answers that is refused so: what it gives, where it is accepted
abbrev pub answer_by : {A : Type 0} → Refusal → A → Result A Refusal
answer_by x given = cond (eqb x.number 0) (Ok given) (Err x)

-- the paper's numbers for each case of an answer
abbrev pub refused_with : {A : Type 0} → Result A Refusal → Refusal
refused_with (Ok given) = accepted
refused_with (Err x) = x
