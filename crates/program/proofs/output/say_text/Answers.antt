-- `program::output::say_text` meets its contract: of no piece are more bytes taken than it has.
use mathlib.Core.Path.{ap, refl}
use Rattle.program.specs.declared.output.Said.{Said}
use Rattle.program.proofs.TextLaws.{said_at_most}
use Rattle.program.proofs.output.say_text.Goals as goal

pub returns-in-Ok : goal.returns-in-Ok
returns-in-Ok g c =
    let from = c.new-said in
    let none = ap (λ (x : Said). x.count) from.ensures.writer in
    let taken = said_at_most from.result c.write.new.self c.write.result (g.D.Display.output c.args.text) none from.ensures.plain (rw c.in-Ok.is refl) c.write.ensures.writes in
    rw c.into_inner.ensures taken
