-- What the writing of a number answers.
use Rattle.std.specs.Prelude.{ℕ}
use Rattle.io.specs.Counts.{IsPrefixLen}
use Rattle.io.specs.Digits.{last_digits, IsDigitCount}

-- so many bytes are no more than the fewest decimal digits that hold n
pub record NumberSaid (n taken : ℕ) : Type 0 where
  pub count : ℕ
  pub fewest : IsDigitCount 10 1 n count
  pub said : IsPrefixLen taken (last_digits 10 count n)
