-- `config::line::field_end` meets its contract.
-- Assumes nothing.
use Rattle.config.proofs.LineLaws.{field_ends}
use Rattle.fields.proofs.MarkLaws.{tail_part}
use Rattle.config.proofs.line.field_end.Goals as goal

pub returns : goal.returns
returns c = field_ends c.args.s.now c.args.at _ _ (tail_part c.args.s.now c.args.at) c.until.ensures c.requires
