-- `text::number::put_decimal` meets its contract: by recursion, as `decimal` goes.
-- Assumes nothing.
use Rattle.text.proofs.number.+put_decimal.Given as goal

abbrev pub decreases-put_decimal : goal.decreases-put_decimal
decreases-put_decimal l = l.v
