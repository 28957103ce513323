-- A device of the code: what a sample does to a sum, and the samples that do the same.
use Rattle.std.specs.Prelude.{ℕ, ◌+◌, ◌-◌, ◌*◌, Bool, true, false, ◌&&◌, leb, ltb}
use Rattle.curve.specs.Ratio.{ratio_of}
use Rattle.phase.specs.declared.settings.Settings.{Settings}
use Rattle.phase.specs.Tick.{gain_at, loss_at}
use Rattle.plans.specs.declared.memo.Memo.{Memo}

-- the first operation that is a curve, and the first that is an ANSI curve
abbrev pub first_curve : ℕ
first_curve = 2

abbrev pub first_ansi : ℕ
first_ansi = 6

-- the highest ratio without a gain
abbrev pub no_gain : ℕ
no_gain = 100

-- the highest ratio that there is
abbrev pub cap_ratio : ℕ
cap_ratio = 2000

-- no sample is larger
abbrev pub top_sample : ℕ
top_sample = 4294967295

-- the ratio m has the samples from m x s to the last before (m + 1) x s; at the cap there is no last one. Without a curve the ratio
-- does not matter, nor does it on an IEC curve where there is no gain: there a sum stands
abbrev pub from_by : (is_curve stands : Bool) → ℕ → ℕ → ℕ
from_by false stands m s = 0
from_by true true m s = 0
from_by true false m s = m * s

abbrev pub to_by : (is_curve stands is_below_cap : Bool) → ℕ → ℕ → ℕ
to_by false stands is_below_cap m s = top_sample
to_by true true is_below_cap m s = (no_gain + 1) * s - 1
to_by true false true m s = m * s + (s - 1)
to_by true false false m s = top_sample

-- the first and the last of the samples at a ratio
abbrev pub samples_at : Settings → ℕ → ℕ × ℕ
samples_at settings m =
    let is_curve : Bool = leb first_curve settings.operation in
    let stands : Bool = leb m no_gain && ltb settings.operation first_ansi in
    (from_by is_curve stands m settings.start_current, to_by is_curve stands (ltb m cap_ratio) m settings.start_current)

abbrev pub memo_by : (is_curve stands is_below_cap : Bool) → ℕ → ℕ → ℕ → ℕ → Memo
memo_by is_curve stands is_below_cap m s gain loss =
    record { from = from_by is_curve stands m s; to = to_by is_curve stands is_below_cap m s; gain = gain; loss = loss }

abbrev pub memo_at : Settings → ℕ → ℕ → ℕ → Memo
memo_at settings m gain loss =
    let op : ℕ = settings.operation in
    memo_by (leb first_curve op) (leb m no_gain && ltb op first_ansi) (ltb m cap_ratio) m settings.start_current gain loss

unfoldable pub memo_of : Settings → ℕ → Memo
memo_of settings g = memo_at settings (ratio_of g settings.start_current) (gain_at settings g) (loss_at settings g)
