-- Devices of the code: one ratio of the pass over all of them.
use Rattle.std.specs.Prelude.{ℕ, ◌+◌, Option, Some, None, Bool, true, false, cond, List, ℤ, set}
use Rattle.std.specs.Int.Signed.{lt_z}
use Rattle.grading.specs.declared.margins.Smallest.{Smallest}

pub record Counted : Type 0 where
  pub count : ℕ
  pub list : List ℕ

-- a ratio is listed where it is too close, else nothing changes
abbrev pub counted : List ℕ → ℕ → ℕ → Bool → Counted
counted list count ratio true = record { count = count + 1; list = set list count ratio }
counted list count ratio false = record { count = count; list = list }

-- the smaller difference, the earlier where they are one
abbrev pub smaller_of : Option Smallest → ℤ → ℕ → Smallest
smaller_of None difference ratio = record { difference = difference; ratio = ratio }
smaller_of (Some before) difference ratio = cond (lt_z difference before.difference) (record { difference = difference; ratio = ratio }) before
