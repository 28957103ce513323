-- A device of the code: what its reader of the status fields answers.
use Rattle.std.specs.Prelude.{cond, List, Option, Some, None, ℕ}
use Rattle.checks.specs.Range.{all_bits}
use Rattle.records.specs.Status.{byte_of}

abbrev pub status_answer : List ℕ → Option ℕ
status_answer bs = cond (all_bits bs) (Some (byte_of bs)) None
