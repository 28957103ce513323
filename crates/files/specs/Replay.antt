-- The replay: what it writes of its whole input (01, 'Rows and the replay program'; 02, E1, E2 and E4), and what feeding it by
-- portions answers. The laws `replay_of_calls`, `record_of_calls`, `explanation_of_calls` and `configured_replay_of_calls` say
-- that the bytes so written, one after the other, are those of `replay_of`, `record_of`, `explanation_of` and `configured_replay_of`,
-- however the input is cut.
use Rattle.std.specs.Prelude.{◌≡◌, Bool, true, false, ◌&&◌, List, [], ◌∷◌, ◌++◌, ℕ, ◌+◌, ◌*◌, leb, ltb, length, Some, None}
use Rattle.text.specs.declared.lines.Closer.TheVariants.{CrLf}
use Rattle.text.specs.Lines.{lines_of, Cutting, cutting}
use Rattle.text.specs.Cutter.{empty_cutter, held_line, cutter_after}
use Rattle.config.specs.Config.{config_of}
use Rattle.rows.specs.declared.refusal.Refusal.{Refusal}
use Rattle.steps.specs.Configuration.{Configuration}
use Rattle.steps.specs.declared.output.Form.{Form}
use Rattle.steps.specs.declared.output.Form.TheVariants.{Changes, Record, Explain, ExplainAll}
use Rattle.steps.specs.declared.progress.Stage.{Stage}
use Rattle.steps.specs.declared.progress.Stage.TheVariants.{Opening, Running, Stopped}
use Rattle.steps.specs.declared.progress.Progress.{Progress}
use Rattle.files.specs.declared.replay.Replay.{Replay}
use Rattle.files.specs.declared.replay.Fed.{Fed}
use Rattle.steps.specs.Output.{spread, end_room}
use Rattle.steps.specs.Progress.{fresh_progress, after_line, wrote_line, end_refusal, end_of}

-- ---- the whole input

-- what an input gives: what its rows write, one after the other; the end line; and what was refused, with its place in the line,
-- of which the end line has the number
pub record Told : Type 0 where
  pub notes : List ℕ
  pub end : List ℕ
  pub refused : Refusal

abbrev pub end_alone : Progress → Told
end_alone p = record { notes = []; end = end_of p; refused = end_refusal p }

-- with bytes that were written before
abbrev pub written_first : List ℕ → Told → Told
written_first bytes x = record { notes = bytes ++ x.notes; end = x.end; refused = x.refused }

unfoldable pub by_lines : Form → Progress → List (List ℕ) → Told
by_lines form p [] = end_alone p
by_lines form p (l ∷ ls) = written_first (wrote_line form p l) (by_lines form (after_line p l) ls)

-- with or without a configuration: settings line, configuration and rows
unfoldable pub told_of : Form → Configuration → List ℕ → Told
told_of form c s = by_lines form (fresh_progress c) (lines_of CrLf s)

abbrev pub notes_and_end : Told → List ℕ
notes_and_end x = x.notes ++ x.end

-- WHAT THE REPLAY WRITES, of its whole input
abbrev pub replay_of : List ℕ → List ℕ
replay_of s = notes_and_end (told_of Changes None s)

-- WHAT THE REPLAY WRITES WITH A CONFIGURATION, of that file and its whole input
abbrev pub configured_replay_of : List ℕ → List ℕ → List ℕ
configured_replay_of c s = notes_and_end (told_of Changes (Some (config_of c)) s)

-- WHAT THE PROGRAM `record` WRITES, of its whole input: a row of the record for each row done
abbrev pub record_of : List ℕ → List ℕ
record_of s = (told_of Record None s).notes

-- WHAT THE PROGRAM `explain` WRITES for a row, of its whole input: the explanation of that row, where it is done
abbrev pub explanation_of : ℕ → List ℕ → List ℕ
explanation_of row s = (told_of (Explain row) None s).notes

-- WHAT IT WRITES WHERE EVERY ROW IS ASKED FOR: the explanation of each row done
abbrev pub explanations_of : List ℕ → List ℕ
explanations_of s = (told_of ExplainAll None s).notes

-- ---- a state: the form, the progress, and the cutter that holds the line that has begun

-- "Longest row: 45 bytes"; a settings line is shorter
abbrev pub longest_line : ℕ
longest_line = 45

-- a line of one byte more is of wrong shape, wherever it ends, and its first bytes tell the fault: `long_front_decides` of `text`
abbrev pub line_limit : ℕ
line_limit = longest_line + 1

abbrev pub fresh_replay : Form → Configuration → Replay
fresh_replay form c = record { form = form; progress = fresh_progress c; cutter = empty_cutter }

-- ---- a portion: the lines that it closes, one after the other; one that is too long, as far as it was read; and the line that
-- it leaves begun

unfoldable pub after_lines : Progress → List (List ℕ) → Progress
after_lines p [] = p
after_lines p (l ∷ ls) = after_lines (after_line p l) ls

unfoldable pub wrote_lines : Form → Progress → List (List ℕ) → List ℕ
wrote_lines form p [] = []
wrote_lines form p (l ∷ ls) = wrote_line form p l ++ wrote_lines form (after_line p l) ls

unfoldable pub with_long : Bool → List (List ℕ) → List ℕ → List (List ℕ)
with_long true ls held = ls ++ (held ∷ [])
with_long false ls held = ls

abbrev pub lines_in : Cutting → List (List ℕ)
lines_in x = with_long x.too_long x.lines x.held

abbrev pub cut_portion : Replay → List ℕ → Cutting
cut_portion r s = cutting CrLf line_limit (held_line r.cutter) s

abbrev pub fed_cut : Replay → List ℕ → Cutting → Replay
fed_cut r s x = record {
  form = r.form;
  progress = after_lines r.progress (lines_in x);
  cutter = cutter_after x r.cutter s;
}

unfoldable pub fed : Replay → List ℕ → Replay
fed r s = fed_cut r s (cut_portion r s)

-- one portion after the other
abbrev pub fed_all : Replay → List (List ℕ) → Replay
fed_all r [] = r
fed_all r (p ∷ ps) = fed_all (fed r p) ps

-- a state that comes of another by some portions
pub record Reached (begun r : Replay) : Type 0 where
  pub portions : List (List ℕ)
  pub state : r ≡ fed_all begun portions

unfoldable pub writes : Replay → List ℕ → List ℕ
writes r s = wrote_lines r.form r.progress (lines_in (cut_portion r s))

-- the room that a portion's output needs at most, by the bytes held and read
abbrev pub portion_room : Form → ℕ → ℕ → ℕ
portion_room form held read = spread form * (held + read)

-- a portion is taken by a state that holds less than a line too long, where the output has that room
abbrev pub takes : Form → ℕ → ℕ → ℕ → Bool
takes form held read room = ltb held line_limit && leb (portion_room form held read) room

abbrev pub fed_by : Replay → List ℕ → Fed
fed_by r s = record { taken = true; state = fed r s; written = length (writes r s) }

-- else it is not taken: the state stays, and nothing is written
unfoldable pub fed_if : Bool → Replay → List ℕ → Fed
fed_if true r s = fed_by r s
fed_if false r s = record { taken = false; state = r; written = 0 }

abbrev pub feed_answer : Replay → List ℕ → ℕ → Fed
feed_answer r s room = fed_if (takes r.form r.cutter.count (length s) room) r s

unfoldable pub writes_if : Bool → Replay → List ℕ → List ℕ
writes_if true r s = writes r s
writes_if false r s = []

abbrev pub feed_writes : Replay → List ℕ → ℕ → List ℕ
feed_writes r s room = writes_if (takes r.form r.cutter.count (length s) room) r s

-- ---- the end of the input

-- a line that has begun is the last line
unfoldable pub after_if : Bool → Progress → List ℕ → Progress
after_if true p l = after_line p l
after_if false p l = p

abbrev pub last_progress : Replay → Progress
last_progress r = after_if (ltb 0 r.cutter.count) r.progress (held_line r.cutter)

abbrev pub ends_with : Replay → List ℕ
ends_with r = end_of (last_progress r)

-- what the end line tells the number of
abbrev pub refusal_at_end : Replay → Refusal
refusal_at_end r = end_refusal (last_progress r)

-- nothing is written where the output has less room than any end line may need
unfoldable pub finish_if : Bool → Replay → List ℕ
finish_if true r = ends_with r
finish_if false r = []

abbrev pub finish_writes : Replay → ℕ → List ℕ
finish_writes r room = finish_if (leb end_room room) r

-- "After a refusal it stops."
abbrev pub is_stopped : Stage → Bool
is_stopped Opening = false
is_stopped Running = false
is_stopped (Stopped x) = true

-- whether the rows done have come to the asked one: no row after it writes anything
abbrev pub is_answered : Form → ℕ → Bool
is_answered Changes done = false
is_answered Record done = false
is_answered (Explain row) done = leb row done
is_answered ExplainAll done = false
