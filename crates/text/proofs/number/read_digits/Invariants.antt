-- `text::number::read_digits` meets its contract: a turn of the loop is a digit, and what is left gives the whole.
-- Assumes nothing.
use Rattle.text.proofs.DigitLaws.{DigitsRead}
use Rattle.text.proofs.number.read_digits.Given as goal

abbrev pub invariant-loop-count : goal.invariant-loop-count
invariant-loop-count l = DigitsRead l.s l.at l.width l.count l.value
