-- From the line that was read to the settings line's answer.
-- Assumes nothing.
use mathlib.Core.Path.{◌≡◌, refl, sym, ap, ◌∙◌}
use mathlib.Core.Bool.{true, false}
use mathlib.Core.List.{List, []}
use Prim.Native.Nat.{ℕ, ◌^◌, ◌<◌}
use native.Mathlib.Omega.{arith}
use lib.ListN.{length, get_or}
use Rattle.std.specs.Prelude.{Option, Some, None, Result, Ok, Err}
use Rattle.phase.specs.declared.settings.Settings.{Settings}
use Rattle.phase.specs.Settings.{settings_refusal}
use Rattle.faults.specs.declared.fault.Flaw.TheVariants.{NoDigit}
use Rattle.faults.specs.declared.fault.Fault.{Fault}
use Rattle.text.specs.Line.{right_shape, numbers_of}
use Rattle.faults.specs.Fault.{shape_of, is_right}
use Rattle.faults.specs.Reader.{line_answer}
use Rattle.faults.specs.device.Calls.{Readable}
use Rattle.rows.specs.declared.refusal.Refusal.{Refusal}
use Rattle.rows.specs.Refusals.{no_digit}
use Rattle.rows.specs.Refusal.{misshapen, without_place, accepted, line_refusal}
use Rattle.rows.specs.SettingsLine.{settings_in, settings_line_refusal, settings_line_answer, settings_line_numbers}
use Rattle.rows.specs.Widths.{row_widths, settings_widths}
use Rattle.rows.proofs.AnswerNumbers.{flaw_refused, no_refusal, answer_numbers, answer_refused}
use Rattle.rows.proofs.NumberedLaws.{line_passed}
use Rattle.faults.proofs.LineLaws.{line_fault, line_faultless, line_number}
use Rattle.faults.proofs.FaultLaws.{empty_line}
use Rattle.faults.proofs.RightLaws.{faultless_right, faultless_shape}

pub settings_readable : Readable settings_widths
settings_readable = record { some = omega arith; few = omega arith; each = refl }

pub settings_by : (s : List ℕ) (x : Option Fault) → shape_of settings_widths s ≡ x → settings_line_refusal s ≡ line_refusal (length settings_widths) x s (settings_refusal (settings_in (numbers_of s)))
unfolding settings_line_refusal
settings_by s x e = ap (λ (y : Option Fault). line_refusal (length settings_widths) y s (settings_refusal (settings_in (numbers_of s)))) e

settings_none : (s : List ℕ) → (settings_line_refusal s).number ≡ 0 → settings_line_refusal s ≡ accepted
unfolding settings_line_refusal
settings_none s e = no_refusal (length settings_widths) (shape_of settings_widths s) s (settings_refusal (settings_in (numbers_of s))) e

-- a line of no bytes: "an empty input is one with no digit", at its end, in the first field
pub settings_empty : settings_line_refusal [] ≡ record { number = no_digit; place = Some (record { offset = 0; field = 1 }); hint = None }
settings_empty = settings_by [] (Some (record { flaw = NoDigit; offset = 0; field = 1 })) (empty_line settings_widths (omega arith)) ∙ rw no_row
  where
    no_row : right_shape row_widths [] ≡ false
    no_row = sym (faultless_right row_widths [] (omega arith)) ∙ ap is_right (empty_line row_widths (omega arith))

-- both clauses of the reader's contract
pub settings_told : (r : Result Settings Refusal) (s : List ℕ) → r ≡ settings_line_answer s → (r ≡ settings_line_answer s) × (settings_line_numbers r ≡ settings_line_refusal s)
unfolding settings_line_answer
settings_told r s e = (e, ap settings_line_numbers e ∙ answer_numbers (settings_line_refusal s) (settings_in (numbers_of s)) (settings_none s))

pub settings_refused : (s : List ℕ) (x : Refusal) → settings_line_refusal s ≡ x → (x.number ≡ 0 → ⊥) → Err x ≡ settings_line_answer s
unfolding settings_line_answer
settings_refused s x e k = answer_refused (settings_line_refusal s) x (settings_in (numbers_of s)) e k

pub settings_shape : (s : List ℕ) (f : Fault) → Err f ≡ line_answer settings_widths s → Err (misshapen (length settings_widths) s f) ≡ settings_line_answer s
settings_shape s f e = settings_refused s (misshapen (length settings_widths) s f) (settings_by s (Some f) (line_fault settings_widths s f e)) (flaw_refused f.flaw)

module _ (s ns : List ℕ) (e : Ok ns ≡ line_answer settings_widths s) where
  settings_at : (k : ℕ) → k < length settings_widths → (get_or ns k 0 ≡ get_or (numbers_of s) k 0) × (get_or (numbers_of s) k 0 < 10 ^ get_or settings_widths k 0)
  settings_at k h = line_number settings_widths s (omega arith) ns e k (omega arith) h

  pub settings_fits : (k : ℕ) → k < length settings_widths → get_or ns k 0 < 10 ^ get_or settings_widths k 0
  settings_fits k h = rw (settings_at k h).0 (settings_at k h).1

  same : settings_in ns ≡ settings_in (numbers_of s)
  same =
      rw (
        (settings_at 0 (omega arith)).0,
        (settings_at 1 (omega arith)).0,
        (settings_at 2 (omega arith)).0,
        (settings_at 3 (omega arith)).0,
        (settings_at 4 (omega arith)).0,
        (settings_at 5 (omega arith)).0,
        (settings_at 6 (omega arith)).0,
      )

  checked : settings_line_refusal s ≡ without_place (settings_refusal (settings_in ns))
  checked = settings_by s None (line_faultless settings_widths s (omega arith) ns e) ∙ rw same

  pub settings_checked : (n : ℕ) → n ≡ settings_refusal (settings_in ns) → (n ≡ 0 → ⊥) → Err (without_place n) ≡ settings_line_answer s
  settings_checked n q k = settings_refused s (without_place n) (checked ∙ ap without_place (sym q)) k

  pub settings_accepted : settings_refusal (settings_in ns) ≡ 0 → Ok (settings_in ns) ≡ settings_line_answer s
  unfolding settings_line_answer
  settings_accepted q = rw (checked ∙ ap without_place q, same)

-- ---- a line of another shape, and an accepted one

pub settings_misshapen : (s : List ℕ) (f : Fault) → shape_of settings_widths s ≡ Some f → settings_line_answer s ≡ Err (misshapen (length settings_widths) s f)
settings_misshapen s f h = sym (settings_refused s (misshapen (length settings_widths) s f) (settings_by s (Some f) h) (flaw_refused f.flaw))

pub settings_answer : (s : List ℕ) → (settings_line_refusal s).number ≡ 0 → settings_line_answer s ≡ Ok (settings_in (numbers_of s))
unfolding settings_line_answer
settings_answer s e = rw e

-- it has the shape, and its settings pass their check
pub settings_line_passed : (s : List ℕ) → (settings_line_refusal s).number ≡ 0 → (right_shape settings_widths s ≡ true) × (settings_refusal (settings_in (numbers_of s)) ≡ 0)
unfolding settings_line_refusal
settings_line_passed s e =
    let (shape, settings) = line_passed (length settings_widths) (shape_of settings_widths s) s (settings_refusal (settings_in (numbers_of s))) e in
    (faultless_shape settings_widths s (omega arith) shape, settings)

pub accepted_settings_pass : (s : List ℕ) (x : Settings) → settings_line_answer s ≡ Ok x → settings_refusal x ≡ 0
accepted_settings_pass s x e =
    let none : (settings_line_refusal s).number ≡ 0 = sym (ap (λ (y : Refusal). y.number) (settings_told (Ok x) s (sym e)).1) in
    let same : Ok (settings_in (numbers_of s)) ≡ Ok x = sym (settings_answer s none) ∙ e in
    let inside : settings_in (numbers_of s) ≡ x = cc in
    rw (← inside) (settings_line_passed s none).1
