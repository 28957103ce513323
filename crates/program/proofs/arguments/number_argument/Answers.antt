-- `program::arguments::number_argument` meets its contract: so many digits hold no larger number.
use Rattle.std.proofs.Common.{rules, ℕ, List, length, take, ◌≤◌, ◌<◌, ◌^◌, Option, Some, None, IfSome, length-take, arith}
use Rattle.std.proofs.lemmas.Str.Parse.{digits_value_short, numerals_by_value, tells_digits}
use Rattle.program.specs.Arguments.{NumberRead}
use Rattle.program.proofs.arguments.number_argument.Goals as goal

short : (text : List ℕ) (k : ℕ) (answer : Option ℕ) → length text ≤ k → NumberRead text answer → IfSome answer (λ n. n < 10 ^ k)
short text k (Some n) fits (number, is) = rw is (digits_value_short (numerals_by_value _ tells_digits) text k number.0.1 fits)
short text k None fits none = tt

pub returns : goal.returns
returns c =
    let buf = c.argument.new.buf in
    let bound : IfSome c.number_of.result (λ n. n < 10 ^ length buf) =
    short (take c.in_ok-count.count buf) (length buf) c.number_of.result (simp length-take (omega arith)) c.number_of.ensures in
    search rules
