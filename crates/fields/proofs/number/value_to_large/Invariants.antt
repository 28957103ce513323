-- `fields::number::value_to_large` meets its contract: what is left of the digits gives the value after the one so far.
-- Assumes nothing.
use mathlib.Core.Path.{◌≡◌}
use Prim.Native.Nat.{◌≤◌, min}
use lib.ListN.{drop}
use Rattle.text.specs.Number.{value_from, value_of}
use Rattle.fields.specs.device.Calls.{large_value}
use Rattle.fields.proofs.number.value_to_large.Given as goal

abbrev pub invariant-loop-b : goal.invariant-loop-b
invariant-loop-b l = (l.value ≤ large_value) × (min (value_of l.s) large_value ≡ min (value_from l.value (drop l.b-index l.s)) large_value)
