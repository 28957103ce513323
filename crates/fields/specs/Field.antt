-- What a field of a line must be (02, E4; COMTRADE 1999; the words quoted are those of docs/DECISIONS.md, 79 to 89).
use Rattle.std.specs.Prelude.{Bool, true, false, cond, ◌&&◌, ◌||◌, List, [], ◌∷◌, ℕ, ◌-◌, eqb, length}
use Rattle.checks.specs.Range.{in_range}
use Rattle.text.specs.Words.{bytes_of}
use Rattle.fields.specs.declared.field.Field.{Field}
use Rattle.fields.specs.declared.field.Field.TheVariants.{Text, Whole, Channels, Decimal, Number, NumberOrNothing}
use Rattle.fields.specs.declared.field.Field.TheVariants.{Extreme, PrimaryOrSecondary, Ascii, Date, Time}
use Rattle.fields.specs.Marks.{unspaced}
use Rattle.fields.specs.Number.{point, is_whole, whole_then, is_channels, is_extreme, is_decimal_of, is_number, is_number_or_nothing}

-- ---- words

abbrev pub capital_of : ℕ → ℕ
capital_of b = cond (in_range 97 122 b) (b - 32) b

-- the word, "in any case of letters"
unfoldable pub is_word : List ℕ → List ℕ → Bool
is_word [] [] = true
is_word [] (b ∷ s) = false
is_word (c ∷ w) [] = false
is_word (c ∷ w) (b ∷ s) = eqb (capital_of b) c && is_word w s

abbrev pub is_primary_or_secondary : List ℕ → Bool
is_primary_or_secondary s = is_word (bytes_of "P") s || is_word (bytes_of "S") s

-- ---- dates

abbrev pub slash : ℕ
slash = 47

abbrev pub colon : ℕ
colon = 58

-- dd/mm/yyyy: "day 1 to 31 and month 1 to 12 in one or two digits each, year four digits from 1900"
abbrev pub is_month_and_year : List ℕ → Bool
is_month_and_year s = whole_then slash 1 2 1 12 (is_whole 4 4 1900 9999) s

abbrev pub is_date : List ℕ → Bool
is_date s = whole_then slash 1 2 1 31 is_month_and_year s

-- hh:mm:ss.ssssss: "hours, minutes, seconds two digits each to 23, 59, 59, six decimals"
abbrev pub is_seconds : List ℕ → Bool
is_seconds s = whole_then point 2 2 0 59 (is_whole 6 6 0 999999) s

abbrev pub is_minutes : List ℕ → Bool
is_minutes s = whole_then colon 2 2 0 59 is_seconds s

abbrev pub is_time : List ℕ → Bool
is_time s = whole_then colon 2 2 0 23 is_minutes s

-- ---- a field of each sort: every one but a text "may begin with spaces (they do not count toward its width ..)". That a text is
-- printable is asked of the whole line, and it has no comma, since fields are what stands between commas.

abbrev pub fits_field : Field → List ℕ → Bool
fits_field (Text least most) f = in_range least most (length f)
fits_field (Whole w) f = is_whole w.least w.most w.low w.high (unspaced f)
fits_field (Channels value letter) f = is_channels value letter (unspaced f)
fits_field (Decimal value) f = is_decimal_of value (unspaced f)
fits_field Number f = is_number (unspaced f)
fits_field NumberOrNothing f = is_number_or_nothing (unspaced f)
fits_field Extreme f = is_extreme (unspaced f)
fits_field PrimaryOrSecondary f = is_primary_or_secondary (unspaced f)
fits_field Ascii f = is_word (bytes_of "ASCII") (unspaced f)
fits_field Date f = is_date (unspaced f)
fits_field Time f = is_time (unspaced f)
