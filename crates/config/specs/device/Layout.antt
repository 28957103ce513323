-- A device of the code: a shape as it keeps it, with its fields lent.
use Rattle.fields.specs.declared.field.Field.{Field}
use Rattle.fields.specs.declared.field.Field.TheVariants.{Text}
use Rattle.config.specs.declared.shape.Shape.{Shape as KeptShape}
use Rattle.config.specs.Shape.{Shape}

abbrev pub kept : KeptShape → Shape
kept x = record { number = x.number; fields = x.fields.now }

-- where a list has no field
abbrev pub any_field : Field
any_field = Text 0 0
