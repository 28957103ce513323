-- The thirteen lines of a configuration (02, E4; COMTRADE 1999): what each field must be, and the line's refusal number.
use Rattle.std.specs.Prelude.{List, [], ◌∷◌, ℕ, get_or}
use Rattle.fields.specs.declared.field.Field.{Field}
use Rattle.fields.specs.declared.field.Field.TheVariants.{Text, Whole, Channels, Decimal, Number, NumberOrNothing}
use Rattle.fields.specs.declared.field.Field.TheVariants.{Extreme, PrimaryOrSecondary, Ascii, Date, Time}
use Rattle.config.specs.Refusals as refusals

pub record Shape : Type 0 where
  pub number : ℕ
  pub fields : List Field

-- so many digits, and a value from one number to another
abbrev pub whole : ℕ → ℕ → ℕ → ℕ → Field
whole least most low high = Whole (record { least = least; most = most; low = low; high = high })

abbrev pub shape : ℕ → List Field → Shape
shape number fields = record { number = number; fields = fields }

-- index, name, phase, component
abbrev pub channel : ℕ → List Field → List Field
channel index more = whole 1 6 index index ∷ Text 0 64 ∷ Text 0 2 ∷ Text 0 64 ∷ more

-- unit, a, b, skew, min, max, primary, secondary, P or S
abbrev pub analogue_fields : ℕ → List Field
analogue_fields index =
    channel index
    (Text 1 32 ∷ Decimal 1 ∷ Decimal 0 ∷ Number ∷ Extreme ∷ Extreme ∷ Number ∷ Number ∷ PrimaryOrSecondary ∷ [])

abbrev pub shapes : List Shape
shapes =
    shape refusals.station (Text 0 64 ∷ Text 0 64 ∷ whole 4 4 1999 1999 ∷ [])
    ∷ shape refusals.channel_counts (whole 1 7 4 4 ∷ Channels 3 65 ∷ Channels 1 68 ∷ [])
    ∷ shape refusals.analogue (analogue_fields 1)
    ∷ shape refusals.analogue (analogue_fields 2)
    ∷ shape refusals.analogue (analogue_fields 3)
    ∷ shape refusals.status (channel 1 (whole 1 1 0 1 ∷ []))
    ∷ shape refusals.frequency (NumberOrNothing ∷ [])
    ∷ shape refusals.number_of_rates (whole 1 3 1 1 ∷ [])
    ∷ shape refusals.rate (Decimal 1000 ∷ whole 1 10 1 9999999999 ∷ [])
    ∷ shape refusals.date (Date ∷ Time ∷ [])
    ∷ shape refusals.date (Date ∷ Time ∷ [])
    ∷ shape refusals.file_type (Ascii ∷ [])
    ∷ shape refusals.multiplier (Number ∷ [])
    ∷ []

abbrev pub line_count : ℕ
line_count = 13

-- the shape at a place: line 1 stands at 0
abbrev pub no_shape : Shape
no_shape = record { number = 0; fields = [] }

abbrev pub shape_at : ℕ → Shape
shape_at place = get_or shapes place no_shape
