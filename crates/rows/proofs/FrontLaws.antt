-- A line that is longer than any right one is refused as its front is, however it goes on.
-- Assumes nothing.
use mathlib.Core.Path.{◌≡◌, sym, ap, ◌∙◌}
use mathlib.Core.Bool.{false}
use mathlib.Core.List.{List, ◌++◌}
use Prim.Native.Nat.{ℕ, ◌+◌, ◌-◌, ◌≤◌, ◌<◌}
use native.Mathlib.Omega.{arith}
use lib.ListN.{length, length-append, get_or-append}
use Rattle.std.specs.Prelude.{Some, Err}
use Rattle.faults.specs.declared.fault.Fault.{Fault}
use Rattle.faults.specs.Fault.{shape_of}
use Rattle.text.specs.Line.{right_shape}
use Rattle.text.proofs.ScanLaws.{total}
use Rattle.text.proofs.ShapeLaws.{shape_most}
use Rattle.faults.proofs.RightLaws.{Faulty, wrong_faulty}
use Rattle.faults.proofs.PlaceLaws.{offset_near, long_front_decides}
use Rattle.checks.proofs.Cases.{not_true}
use Rattle.rows.specs.Refusal.{misshapen}
use Rattle.rows.specs.Row.{row_answer}
use Rattle.rows.specs.Widths.{row_widths, settings_widths}
use Rattle.rows.specs.SettingsLine.{settings_line_answer}
use Rattle.rows.proofs.RowLaws.{row_misshapen}
use Rattle.rows.proofs.SettingsLineLaws.{settings_misshapen}

-- one byte more than the longest right line has a fault
pub long_faulty : (ws s : List ℕ) → 1 ≤ length ws → total ws + length ws + 1 < length s → Faulty ws s
long_faulty ws s h l = wrong_faulty ws s h (not_true _ (λ e. omega (arith, l, shape_most ws s h e)))

long_no_row : (s : List ℕ) → 45 < length s → right_shape row_widths s ≡ false
long_no_row s l = not_true _ (λ e. omega (arith, l, shape_most row_widths s (omega arith) e))

module _ (s more : List ℕ) (long : 45 < length s) where
  misshapen_front : (fields : ℕ) (f : Fault) → f.offset < length s → misshapen fields (s ++ more) f ≡ misshapen fields s f
  misshapen_front fields f h =
      rw (
        get_or-append s more 0 f.offset h,
        get_or-append s more 0 (f.offset - 1) (omega (arith, h)),
        get_or-append s more 0 0 (omega (arith, long)),
        get_or-append s more 0 1 (omega (arith, long)),
        get_or-append s more 0 2 (omega (arith, long)),
        long_no_row (s ++ more) (omega (arith, long, length-append s more)),
        long_no_row s long,
      )

  module _ (ws : List ℕ) (some : 1 ≤ length ws) (l : total ws + length ws + 1 < length s) (x : Faulty ws s) where
    front_shape : shape_of ws (s ++ more) ≡ Some x.fault
    front_shape = long_front_decides ws s more some l ∙ x.shape

    front_refusal : misshapen (length ws) (s ++ more) x.fault ≡ misshapen (length ws) s x.fault
    front_refusal = misshapen_front (length ws) x.fault (omega (arith, l, offset_near ws s x.fault some x.shape))

  pub row_front : (last : ℕ) → row_answer (s ++ more) last ≡ row_answer s last
  row_front last =
      let x = long_faulty row_widths s (omega arith) (omega (arith, long)) in
      row_misshapen (s ++ more) last x.fault (front_shape row_widths (omega arith) (omega (arith, long)) x)
      ∙ ap Err (front_refusal row_widths (omega arith) (omega (arith, long)) x)
      ∙ sym (row_misshapen s last x.fault x.shape)

  pub settings_front : settings_line_answer (s ++ more) ≡ settings_line_answer s
  settings_front =
      let x = long_faulty settings_widths s (omega arith) (omega (arith, long)) in
      settings_misshapen (s ++ more) x.fault (front_shape settings_widths (omega arith) (omega (arith, long)) x)
      ∙ ap Err (front_refusal settings_widths (omega arith) (omega (arith, long)) x)
      ∙ sym (settings_misshapen s x.fault x.shape)
