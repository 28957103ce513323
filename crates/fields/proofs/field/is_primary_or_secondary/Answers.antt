-- `fields::field::is_primary_or_secondary` meets its contract: by the one letter, then by the other.
-- Assumes nothing.
use mathlib.Core.Path.{sym, ◌∙◌}
use Rattle.text.specs.Words.{bytes_of}
use Rattle.fields.proofs.FieldLaws.{word_same, capitals, is_primary, is_secondary}
use Rattle.fields.proofs.field.is_primary_or_secondary.Goals as goal

pub returns-then-eq_ignore_ascii_case : goal.returns-then-eq_ignore_ascii_case
returns-then-eq_ignore_ascii_case c =
    let s = c.args.s.now in
    let first = word_same (bytes_of "P") s _ capitals.0 c.eq_ignore_ascii_case.ensures.test in
    let right = c.if-eq_ignore_ascii_case.true in
    right ∙ sym (is_primary s (sym first ∙ right))

pub returns-else-eq_ignore_ascii_case : goal.returns-else-eq_ignore_ascii_case
returns-else-eq_ignore_ascii_case c =
    let s = c.args.s.now in
    let first = word_same (bytes_of "P") s _ capitals.0 c.eq_ignore_ascii_case.ensures.test in
    word_same (bytes_of "S") s _ capitals.1 c.eq_ignore_ascii_case-else-eq_ignore_ascii_case.ensures.test
    ∙ sym (is_secondary s (sym first ∙ c.if-eq_ignore_ascii_case.false))
