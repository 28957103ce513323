-- The groups of operations (01, 'Settings' and 'Curve numbers'): "0 Off, 1 Definite, 2 to 12 as below".
use Rattle.std.specs.Prelude.{ℕ, cond, leb, eqb}
use Rattle.phase.specs.declared.operation.Kind.{Kind}
use Rattle.phase.specs.declared.operation.Kind.TheVariants.{Off, On}
use Rattle.phase.specs.declared.operation.ResetRule.TheVariants.{Iec, Ansi}
use Rattle.phase.specs.declared.operation.Timing.TheVariants.{Definite, Curve}

-- the IEC curves are 2 to 5, the ANSI curves 6 to 12; where the paper has no operation, Off
unfoldable pub kind_of : ℕ → Kind
kind_of op =
    cond (eqb op 0) Off
    (cond (eqb op 1) (On Definite) (cond (leb op 5) (On (Curve Iec)) (cond (leb op 12) (On (Curve Ansi)) Off)))
