-- A data row (01, 'Rows and the replay program').
use Rattle.std.specs.Prelude.{cond, List, Result, ℕ, leb, get_or}
use Rattle.rows.specs.declared.row.Row.{Row}
use Rattle.relay.specs.Refusals.{wrong_block}
use Rattle.rows.specs.declared.refusal.Refusal.{Refusal}
use Rattle.rows.specs.Refusal.{answer_by, refused_with}
use Rattle.rows.specs.Numbered.{numbered_refusal}
use Rattle.rows.specs.Widths.{row_widths}
use Rattle.text.specs.Line.{numbers_of}

-- the largest number of six digits
abbrev pub last_row : ℕ
last_row = 999999

-- the largest number of seven digits
abbrev pub largest_current : ℕ
largest_current = 9999999

-- "The timestamp is read and ignored."
abbrev pub row_of : List ℕ → Row
row_of ns = record {
  number = get_or ns 0 0;
  sample = record { l1 = get_or ns 2 0; l2 = get_or ns 3 0; l3 = get_or ns 4 0; block = get_or ns 5 0 };
}

-- 14 where the block field "isn't 0 or 1"
abbrev pub block_refusal : List ℕ → ℕ
block_refusal ns = cond (leb (row_of ns).sample.block 1) 0 wrong_block

-- after a row of number `last`: by its shape, 13, 14; "Refusals 13 and 14 stay, and are looked at only in a row of right shape."
abbrev pub row_refusal : List ℕ → ℕ → Refusal
row_refusal s last = numbered_refusal row_widths block_refusal s last

-- what the reader of rows answers
unfoldable pub row_answer : List ℕ → ℕ → Result Row Refusal
row_answer s last = answer_by (row_refusal s last) (row_of (numbers_of s))

-- the paper's numbers for each case of the answer
abbrev pub row_numbers : Result Row Refusal → Refusal
row_numbers x = refused_with x
