-- What a run answers.
use Rattle.std.specs.Prelude.{Result, Ok, Err}
use Rattle.files.specs.declared.replay.Replay.{Replay}

-- the state that it came to, at the end or where a call of the system failed
abbrev pub reached_by : Result Replay Replay → Replay
reached_by (Ok state) = state
reached_by (Err state) = state
