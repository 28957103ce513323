-- `fields::field::is_date` meets its contract: by the number that stands first.
-- Assumes nothing.
use Rattle.std.proofs.Common.{rules, tests}
use Rattle.fields.specs.Field.{is_month_and_year, slash}
use Rattle.fields.proofs.NumberLaws.{then_rest}
use Rattle.fields.proofs.field.is_date.Goals as goal

pub returns : goal.returns
returns c = then_rest slash 1 2 1 31 c.args.s.now is_month_and_year c.after_whole.result _ c.after_whole.ensures (search (rules, tests))
