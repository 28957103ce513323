-- The explanation of a tick (02, E2: "tell why it did or didn't trip") as text: a line for each phase.
use Rattle.std.specs.Prelude.{ℕ, ◌+◌, List, [], ◌++◌, Result, Ok, Err}
use Prim.Native.String.{String}
use Rattle.phase.specs.declared.settings.Settings.{Settings}
use Rattle.phase.specs.declared.state.PhaseState.{PhaseState}
use Rattle.phase.specs.Settings.{trip_level}
use Rattle.phase.specs.Tick.{tick_answer}
use Rattle.relay.specs.declared.sample.Sample.{Sample}
use Rattle.relay.specs.declared.state.RelayState.{RelayState}
use Rattle.relay.specs.State.{phase_of}
use Rattle.text.specs.Number.{decimal, decimal_room}
use Rattle.text.specs.Words.{bytes_of}
use Rattle.why.specs.declared.reason.Reason.{Reason}
use Rattle.why.specs.declared.reason.Reason.TheVariants.{OperationOff, NotStarted, StartOnly, TooFewTicks, SumBelowLevel, Blocked, Tripped}
use Rattle.why.specs.Answer.{why_answer}

-- how many are lacking
abbrev pub lacking_text : String → ℕ → List ℕ
lacking_text words n = bytes_of words ++ decimal n ++ bytes_of " lacking"

-- the reason in the paper's words, but for one comma in place of a 'but'
abbrev pub reason_text : Reason → List ℕ
reason_text OperationOff = bytes_of "operation off"
reason_text NotStarted = bytes_of "not started"
reason_text StartOnly = bytes_of "start only"
reason_text (TooFewTicks n) = lacking_text "too few ticks running, " n
reason_text (SumBelowLevel n) = lacking_text "sum below the level, " n
reason_text Blocked = bytes_of "phase trip on, general trip blocked"
reason_text Tripped = bytes_of "tripped"

-- a number and the word before it
abbrev pub named_number : String → ℕ → List ℕ
named_number word n = bytes_of word ++ decimal n

abbrev pub state_text : PhaseState → List ℕ
state_text state = named_number ", run " state.run ++ named_number ", drop " state.drop ++ named_number ", sum " state.sum

-- what a student needs to follow it: the sample, run, drop and sum after the tick, and the trip level; whether the phase is started,
-- the reason tells
abbrev pub numbers_text : ℕ → PhaseState → ℕ → List ℕ
numbers_text sample after level =
    named_number "\tsample " sample ++ state_text after ++ named_number ", trip level " level ++ bytes_of "\n"

-- the line of a phase; a refused explanation has none
abbrev pub line_by : Result Reason ℕ → List ℕ → ℕ → PhaseState → ℕ → List ℕ
line_by (Ok reason) name sample after level = name ++ reason_text reason ++ numbers_text sample after level
line_by (Err n) name sample after level = []

-- of the tick that settings, state and sample give, under a block
abbrev pub phase_line : List ℕ → Settings → PhaseState → ℕ → ℕ → List ℕ
phase_line name settings state g block =
    line_by (why_answer settings state g block) name g (tick_answer settings state g).state (trip_level settings)

-- L1, L2, L3, by the relay's state before the tick
unfoldable pub explanation : Settings → RelayState → Sample → List ℕ
explanation settings relay sample =
    phase_line (bytes_of "L1: ") settings (phase_of relay 0) sample.l1 sample.block
    ++ phase_line (bytes_of "L2: ") settings (phase_of relay 1) sample.l2 sample.block
    ++ phase_line (bytes_of "L3: ") settings (phase_of relay 2) sample.l3 sample.block

-- ---- how much room that takes

-- the longest is "too few ticks running, " with its number and " lacking"
abbrev pub reason_room : ℕ
reason_room = 23 + decimal_room + 8

-- each number with the word before it
abbrev pub state_room : ℕ
state_room = 6 + decimal_room + (7 + decimal_room) + (6 + decimal_room)

-- and LF
abbrev pub numbers_room : ℕ
numbers_room = 8 + decimal_room + state_room + (13 + decimal_room) + 1

-- "L1: " and so on
abbrev pub name_room : ℕ
name_room = 4

abbrev pub line_room : ℕ
line_room = name_room + reason_room + numbers_room

abbrev pub explanation_room : ℕ
explanation_room = line_room + line_room + line_room
