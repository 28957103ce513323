-- What a configuration file gives, of which no contract can say more than that it came in some portions.
use Rattle.std.specs.Prelude.{◌≡◌, List, ℕ, Result}
use Rattle.config.specs.declared.reader.Reader.{Reader}
use Rattle.config.specs.declared.reader.Fault.{Fault}
use Rattle.config.specs.Reader.{fresh_reader, taken_all, end_answer}

-- the reader after some portions
pub record ReaderReached (r : Reader) : Type 0 where
  pub portions : List (List ℕ)
  pub taken : r ≡ taken_all fresh_reader portions

-- the answer at the end of some portions
pub record ConfigReached (r : Result ℕ Fault) : Type 0 where
  pub portions : List (List ℕ)
  pub answer : r ≡ end_answer (taken_all fresh_reader portions)
