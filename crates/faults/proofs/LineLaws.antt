-- What the caller of the reader of lines learns.
-- Assumes nothing.
use mathlib.Core.Path.{◌≡◌, refl, sym, ap, ◌∙◌}
use mathlib.Core.Bool.{true}
use mathlib.Core.List.{List, [], ◌∷◌, ◌++◌}
use Prim.Native.Nat.{ℕ, suc, ◌^◌, ◌≤◌, ◌<◌}
use native.Mathlib.Omega.{arith}
use lib.ListN.{length, get_or, drop, replicate, get_or-append}
use lib.Seq.{length-sets}
use Rattle.std.specs.Prelude.{Option, Some, None, Result, Ok, Err}
use Rattle.faults.specs.declared.fault.Fault.{Fault}
use Rattle.text.specs.Line.{field_limit, right_shape, numbers_of}
use Rattle.faults.specs.Fault.{shape_of}
use Rattle.faults.specs.Reader.{placed, line_by, line_answer}
use Rattle.text.proofs.StoreLaws.{sets_front}
use Rattle.text.proofs.ScanLaws.{scanned}
use Rattle.text.proofs.ShapeLaws.{scan_numbers, number_below}
use Rattle.faults.proofs.RightLaws.{faultless_shape}

-- the shape that an answer tells
abbrev pub shape_told : Result (List ℕ) Fault → Option Fault
shape_told (Ok numbers) = None
shape_told (Err f) = Some f

shape_by_law : (x : Option Fault) (ns : List ℕ) → shape_told (line_by x ns) ≡ x
shape_by_law None ns = refl
shape_by_law (Some f) ns = refl

placed_by : (x : Option Fault) (ns ms : List ℕ) → Ok ms ≡ line_by x ns → ms ≡ placed ns
placed_by None ns ms e = cc
placed_by (Some f) ns ms e = cc

scanned_length : (ws s : List ℕ) → length (scanned ws s) ≡ length ws
unfolding scanned
scanned_length [] s = refl
scanned_length (w ∷ ws) s = ap suc (scanned_length ws _)

module _ (ws s : List ℕ) where
  pub line_shape : (r : Result (List ℕ) Fault) → r ≡ line_answer ws s → shape_told r ≡ shape_of ws s
  line_shape r e = ap shape_told e ∙ shape_by_law (shape_of ws s) (numbers_of s)

  -- a fault that is answered is the line's
  pub line_fault : (f : Fault) → Err f ≡ line_answer ws s → shape_of ws s ≡ Some f
  line_fault f e = sym (line_shape (Err f) e)

  -- ---- numbers that are answered

  module _ (n : 1 ≤ length ws) (ns : List ℕ) (e : Ok ns ≡ line_answer ws s) where
    pub line_faultless : shape_of ws s ≡ None
    line_faultless = sym (line_shape (Ok ns) e)

    pub line_right : right_shape ws s ≡ true
    line_right = faultless_shape ws s n line_faultless

    pub line_placed : ns ≡ placed (numbers_of s)
    line_placed = placed_by (shape_of ws s) (numbers_of s) ns e

    pub line_room_law : length ns ≡ field_limit
    line_room_law = ap length line_placed ∙ length-sets (replicate field_limit 0) 0 (numbers_of s)

    -- they stand at the front
    pub line_front : length ws ≤ field_limit → (length (numbers_of s) ≡ length ws) × (ns ≡ numbers_of s ++ drop (length (numbers_of s)) (replicate field_limit 0))
    line_front h =
        let m : length (numbers_of s) ≡ length ws = ap length (sym (scan_numbers ws s line_right)) ∙ scanned_length ws s in
        (m, line_placed ∙ sets_front (replicate field_limit 0) (numbers_of s) (omega arith))

    -- the number of field k, and that it fits its width
    pub line_number : (k : ℕ) → length ws ≤ field_limit → k < length ws → (get_or ns k 0 ≡ get_or (numbers_of s) k 0) × (get_or (numbers_of s) k 0 < 10 ^ get_or ws k 0)
    line_number k h l =
        let (m, front) = line_front h in (
          ap (λ (xs : List ℕ). get_or xs k 0) front ∙ get_or-append (numbers_of s) _ 0 k (omega (arith, m)),
          number_below ws s n line_right k,
        )
