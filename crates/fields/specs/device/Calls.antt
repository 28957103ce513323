-- A device of code and proofs: what the functions of the crate hand on, each fact by its name.
use Rattle.std.specs.Prelude.{◌≡◌, Bool, true, cond, ◌&&◌, List, ℕ, ◌≤◌, leb, ltb, length, drop, Option, Some, None, option_copied}
use Rattle.std.specs.Borrow.{Bor}
use Rattle.text.specs.Number.{digit_limit}
use Rattle.fields.specs.declared.field.Field.{Field}
use Rattle.fields.specs.declared.field.Field.TheVariants.{Text, Whole, Channels, Decimal, Number, NumberOrNothing}
use Rattle.fields.specs.declared.field.Field.TheVariants.{Extreme, PrimaryOrSecondary, Ascii, Date, Time}
use Rattle.fields.specs.Marks.{has, before, after}
use Rattle.fields.specs.Number.{is_whole}

-- what is left of a text after so many bytes
pub record Leads (s rest : List ℕ) (n : ℕ) : Type 0 where
  pub within : n ≤ length s
  pub left : drop n s ≡ rest

-- so many bytes stand before the first that is one of two marks
pub record MarkFound (m n : ℕ) (s : List ℕ) (count : ℕ) : Type 0 where
  pub counted : count ≡ length (before m n s)
  pub within : count ≤ length s

-- a whole number and the mark that closes it stand first, and this is what stands after them; none where they don't
pub record WholeLeads (mark least most low high : ℕ) (s : List ℕ) (rest : Option (Bor (List ℕ))) : Type 0 where
  pub told : option_copied rest
      ≡ cond (has mark mark s && is_whole least most low high (before mark mark s)) (Some (after mark mark s)) None

-- no decimal that is asked for has such a value
abbrev pub large_value : ℕ
large_value = 1001

-- the fields that the code reads: their digits and values fit in its numbers
abbrev pub readable : Field → Bool
readable (Text least most) = true
readable (Whole w) = leb w.most digit_limit
readable (Channels value letter) = true
readable (Decimal value) = ltb value large_value
readable Number = true
readable NumberOrNothing = true
readable Extreme = true
readable PrimaryOrSecondary = true
readable Ascii = true
readable Date = true
readable Time = true
