-- A device of code and proofs: a row read straight from a place of a portion, without cutting its line out first. It follows the
-- steps of the code; what it means is said by `at_front` in `proofs/FrontRowLaws.antt`: where there is one, the cutter would cut that
-- line there, and `row_answer` accept it as that row.
use Rattle.std.specs.Prelude.{cond, ◌&&◌, List, [], ◌∷◌, Option, Some, None, option_and_then, ℕ, ◌+◌, leb, eqb, length, get_or, drop}
use Rattle.std.specs.Option.{option_map}
use Rattle.text.specs.Number.{leading, value_of}
use Rattle.text.specs.Line.{comma, cr, lf}
use Rattle.rows.specs.declared.front.Field.{Field}
use Rattle.rows.specs.declared.front.Front.{Front}
use Rattle.rows.specs.Row.{row_of}
use Rattle.rows.specs.Widths.{row_widths}

-- so many bytes are to stand there, one more than the longest row has
abbrev pub front_room : ℕ
front_room = 46

-- the field of these digits, which begin at a place, where its closer stands after them
abbrev pub field_of : List ℕ → ℕ → List ℕ → ℕ → Option Field
field_of digits closer s at =
    cond (leb 1 (length digits) && eqb (get_or s (at + length digits) 0) closer)
    (Some (record { value = value_of digits; next = at + length digits + 1 })) None

-- at most w of the digits that stand there
unfoldable pub field_from : ℕ → ℕ → List ℕ → ℕ → Option Field
field_from w closer s at = field_of (leading w (drop at s)) closer s at

-- the numbers of fields, and the place after the LF that closes their line
pub record Numbers : Type 0 where
  pub values : List ℕ
  pub next : ℕ

abbrev pub with_value : ℕ → Numbers → Numbers
with_value n x = record { values = n ∷ x.values; next = x.next }

-- what closes a field: a comma before fields of these widths, CR after the last
abbrev pub closer_of : List ℕ → ℕ
closer_of [] = cr
closer_of (w ∷ ws) = comma

-- fields of these widths, one after the other, and LF
unfoldable pub numbers_from : List ℕ → List ℕ → ℕ → Option Numbers
numbers_from [] s at = cond (eqb (get_or s at 0) lf) (Some (record { values = []; next = at + 1 })) None
numbers_from (w ∷ ws) s at =
    option_and_then (λ (f : Field). option_map (with_value f.value) (numbers_from ws s f.next)) (field_from w (closer_of ws) s at)

-- the block is 0 or 1
abbrev pub front_of : Numbers → Option Front
front_of x = cond (leb (get_or x.values 5 0) 1) (Some (record { row = row_of x.values; next = x.next })) None

unfoldable pub fields_from : List ℕ → ℕ → Option Front
fields_from s at = option_and_then front_of (numbers_from row_widths s at)

-- by its number, after a row of number `last`
abbrev pub next_front : ℕ → Front → Option Front
next_front last x = cond (eqb x.row.number (last + 1)) (Some x) None

-- where enough bytes stand there; any other row is another reader's
unfoldable pub front_answer : List ℕ → ℕ → ℕ → Option Front
front_answer s at last = cond (leb (at + front_room) (length s)) (option_and_then (next_front last) (fields_from s at)) None
