-- What the reader of lines answers: the numbers where the shape is right, else the fault.
use Rattle.std.specs.Prelude.{Bool, true, ◌&&◌, List, [], ◌∷◌, Option, Some, None, Result, Ok, Err, ℕ, leb, replicate}
use Rattle.std.proofs.lemmas.List.Edits.{sets}
use Rattle.faults.specs.declared.fault.Fault.{Fault}
use Rattle.text.specs.Number.{digit_limit}
use Rattle.text.specs.Line.{field_limit, numbers_of}
use Rattle.faults.specs.Fault.{shape_of}

-- the number of each field fits in 64 bits
abbrev pub narrow : List ℕ → Bool
narrow [] = true
narrow (w ∷ ws) = leb w digit_limit && narrow ws

-- the numbers from the front, 0 in the other places
abbrev pub placed : List ℕ → List ℕ
placed ns = sets (replicate field_limit 0) 0 ns

abbrev pub line_by : Option Fault → List ℕ → Result (List ℕ) Fault
line_by None ns = Ok (placed ns)
line_by (Some f) ns = Err f

abbrev pub line_answer : List ℕ → List ℕ → Result (List ℕ) Fault
line_answer ws s = line_by (shape_of ws s) (numbers_of s)
