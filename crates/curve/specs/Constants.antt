-- The constants of the eleven curves (01, 'Curve numbers').
use Rattle.std.specs.Prelude.{ℕ, Bool, true, false, List, [], ◌∷◌, eqb, Option, Some, None}
use Rattle.curve.specs.declared.constants.Power.{Power}
use Rattle.curve.specs.declared.constants.Power.TheVariants.{Fiftieth, First, Second}
use Rattle.curve.specs.declared.constants.Constants.{Constants}

-- a row of the table: the operation's number, and its constants; the power a is 0.02, a fiftieth, or 1, or 2
pub record CurveRow : Type 0 where
  pub op : ℕ
  pub numbers : Constants

abbrev pub row : ℕ → ℕ → ℕ → Power → Option ℕ → CurveRow
row op k c a kr = record { op = op; numbers = record { k = k; c = c; a = a; kr = kr } }

-- Op, k, c, a, kr, name. "k and kr are in units of 0.0001 s, c in microseconds, a is the power". The paper's "-" is a c of 0 and no kr.
abbrev pub curve_table : List CurveRow
curve_table =
    row 2 1400 0 Fiftieth None  -- IEC Inv
    ∷ row 3 135000 0 First None  -- IEC VeryInv
    ∷ row 4 800000 0 Second None  -- IEC ExtInv
    ∷ row 5 1200000 0 First None  -- IEC LongInv
    ∷ row 6 86 18500 Fiftieth (Some 4600)  -- ANSI Inv
    ∷ row 7 515 114000 Fiftieth (Some 48500)  -- ANSI ModInv
    ∷ row 8 196100 491000 Second (Some 216000)  -- ANSI VeryInv
    ∷ row 9 282000 121700 Second (Some 291000)  -- ANSI ExtInv
    ∷ row 10 860 185000 Fiftieth (Some 46000)  -- ANSI LongInv
    ∷ row 11 285500 712000 Second (Some 134600)  -- ANSI LongVeryInv
    ∷ row 12 640700 250000 Second (Some 300000)  -- ANSI LongExtInv
    ∷ []

abbrev pub pick_row : Bool → Constants → Constants → Constants
pick_row true found other = found
pick_row false found other = other

-- the numbers of the row with that operation; where there is none, numbers that nothing reads
abbrev pub numbers_in : List CurveRow → ℕ → Constants
numbers_in [] op = record { k = 0; c = 0; a = First; kr = None }
numbers_in (r ∷ rows) op = pick_row (eqb op r.op) r.numbers (numbers_in rows op)

unfoldable pub constants_of : ℕ → Constants
constants_of op = numbers_in curve_table op
