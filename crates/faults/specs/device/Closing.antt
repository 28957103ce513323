-- A device of code and proofs: what stands after the digits of a field, where no digit stands.
use Rattle.std.specs.Prelude.{Bool, true, false, cond, not, ◌||◌, List, [], ◌∷◌, Option, Some, None, Result, Ok, Err, ℕ, ◌+◌, eqb, drop}
use Rattle.faults.specs.declared.fault.Flaw.{Flaw}
use Rattle.faults.specs.declared.fault.Flaw.TheVariants.{NoDigit, StrayByte, FieldCount, LineEnd}
use Rattle.faults.specs.declared.fault.Fault.{Fault}
use Rattle.faults.specs.declared.reader.Closing.{Closing}
use Rattle.faults.specs.declared.reader.Closing.TheVariants.{Next, Last}
use Rattle.text.specs.Line.{comma, cr, lf}
use Rattle.faults.specs.Fault.{begins, is_empty}

abbrev pub fault_of : Flaw → ℕ → ℕ → Fault
fault_of flaw offset field = record { flaw = flaw; offset = offset; field = field }

abbrev pub flawed_at : Flaw → ℕ → ℕ → Result Closing Fault
flawed_at flaw offset field = Err (fault_of flaw offset field)

-- the end, or a byte that is taken for the CR
abbrev pub ending_of : ℕ → ℕ → List ℕ → Result Closing Fault
ending_of at field [] = flawed_at LineEnd at field
ending_of at field (b ∷ s) =
    cond (begins lf s) (cond (is_empty (drop 1 s)) (Ok Last) (flawed_at LineEnd (at + 2) field)) (flawed_at LineEnd (at + 1) field)

-- neither a comma nor the CR, nor the end
abbrev pub closes_none : List ℕ → Bool
closes_none [] = false
closes_none (b ∷ s) = not (eqb b comma || eqb b cr)

-- by tests: such a byte; no digit in the field; a comma; the last field that is due
unfoldable pub closing_by : Bool → Bool → Bool → Bool → ℕ → ℕ → Result Closing Fault → Result Closing Fault
closing_by true none comma last at field ending = flawed_at StrayByte at field
closing_by false true comma last at field ending = flawed_at NoDigit at field
closing_by false false true true at field ending = flawed_at FieldCount at field
closing_by false false true false at field ending = Ok Next
closing_by false false false true at field ending = ending
closing_by false false false false at field ending = flawed_at FieldCount at field

abbrev pub closing_of : Bool → ℕ → ℕ → ℕ → List ℕ → Result Closing Fault
closing_of last digits at field s = closing_by (closes_none s) (eqb digits 0) (begins comma s) last at field (ending_of at field s)

-- that, as the shape of the line; after a comma the rest of the line tells
abbrev pub shape_by : Result Closing Fault → Option Fault → Option Fault
shape_by (Ok Next) more = more
shape_by (Ok Last) more = None
shape_by (Err f) more = Some f
