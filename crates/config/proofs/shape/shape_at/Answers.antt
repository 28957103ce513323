-- `config::shape::shape_at` meets its contract: the table is the definition's.
-- Assumes nothing.
use mathlib.Core.Path.{refl}
use Rattle.config.proofs.LineLaws.{kept_shape}
use Rattle.config.proofs.shape.shape_at.Goals as goal

pub returns : goal.returns
returns c = kept_shape _ _ _ _ _ _ _ _ _ _ _ _ _ _ c.args.place refl refl
