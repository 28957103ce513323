-- `config::line::body_fits` meets its contract: by its bytes, then by its fields.
-- Assumes nothing.
use mathlib.Core.Path.{ap, ◌∙◌}
use Rattle.config.specs.Shape.{Shape}
use Rattle.config.specs.device.Calls.{all_readable}
use Rattle.config.proofs.LineLaws.{shape_readable}
use Rattle.config.proofs.line.body_fits.Goals as goal

pub fields_fit-requires : goal.fields_fit-requires
fields_fit-requires c = ap (λ (x : Shape). all_readable x.fields) c.shape_at.ensures ∙ shape_readable c.args.place
