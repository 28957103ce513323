-- `fields::field::fits` meets its contract: by the sort of the field.
-- Assumes nothing.
use mathlib.Core.Path.{sym, ap, ◌∙◌}
use Rattle.text.specs.Words.{bytes_of}
use Rattle.fields.specs.declared.field.Field.{Field}
use Rattle.fields.specs.Field.{is_word, fits_field}
use Rattle.fields.proofs.MarkLaws.{tail_part}
use Rattle.fields.proofs.FieldLaws.{word_same, capitals}
use Rattle.fields.proofs.field.fits.Goals as goal

pub returns-in-Ascii : goal.returns-in-Ascii
returns-in-Ascii c =
    let s = c.args.s.now in
    word_same (bytes_of "ASCII") _ _ capitals.2 c.eq_ignore_ascii_case.ensures.test
    ∙ ap (is_word (bytes_of "ASCII")) (tail_part s c.spaces.result ∙ c.spaces.ensures.left)
    ∙ ap (λ (k : Field). fits_field k s) (sym c.in-Ascii.is)
