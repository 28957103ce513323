-- `fields::field::is_minutes` meets its contract: by the number that stands first.
-- Assumes nothing.
use Rattle.std.proofs.Common.{rules, tests}
use Rattle.fields.specs.Field.{is_seconds, colon}
use Rattle.fields.proofs.NumberLaws.{then_rest}
use Rattle.fields.proofs.field.is_minutes.Goals as goal

pub returns : goal.returns
returns c = then_rest colon 2 2 0 59 c.args.s.now is_seconds c.after_whole.result _ c.after_whole.ensures (search (rules, tests))
