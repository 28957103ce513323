-- What feeding and ending answer, case by case.
-- Assumes nothing.
use Rattle.std.specs.Prelude.{Result, Some, None}
use Rattle.config.specs.declared.reader.Fault.{Fault}
use mathlib.Core.Path.{◌≡◌, refl, ap, ◌∙◌}
use mathlib.Core.Bool.{Bool, true, false, ◌&&◌}
use mathlib.Core.List.{List, [], ◌∷◌, ◌++◌}
use Prim.Native.Nat.{ℕ, ◌+◌, ◌*◌, ◌/◌, ◌≤◌, ◌<◌}
use native.Mathlib.Omega.{arith}
use lib.Dec.{leb, ltb}
use lib.ListN.{length}
use borrow.Author.Tests.{le-leb, lt-leb, lt-ltb, leb-true, ltb-true}
use Rattle.config.specs.Config.{config_of}
use Rattle.config.specs.Reader.{fresh_reader, taken_all, end_answer}
use Rattle.config.proofs.ConfigLaws.{config_of_calls}
use Rattle.steps.specs.Configuration.{Configuration}
use Rattle.steps.specs.declared.output.Form.{Form}
use Rattle.steps.specs.declared.output.Form.TheVariants.{Changes, Record, Explain, ExplainAll}
use Rattle.files.specs.declared.replay.Replay.{Replay}
use Rattle.files.specs.declared.replay.Fed.{Fed}
use Rattle.text.specs.Lines.{joined}
use Rattle.text.specs.declared.page.Page.{Page}
use Rattle.text.specs.device.Page.{Put}
use Rattle.steps.specs.Output.{spread, end_room}
use Rattle.files.specs.Replay.{Told, written_first, told_of, notes_and_end, replay_of, configured_replay_of, record_of, explanation_of, explanations_of, longest_line, line_limit, fresh_replay, portion_room, fed, writes, takes, fed_by, fed_if, feed_answer, writes_if, feed_writes, ends_with, refusal_at_end, finish_if, finish_writes}
use Rattle.files.specs.device.Calls.{Sound}
use Rattle.checks.proofs.Tests.{both_true, leb_iff}
use Rattle.files.proofs.PortionLaws.{fed_form, fed_sound, fresh_sound, told_by_portions, told_of_portions}

-- what was put on a page stands within its buffer
pub put_inside : {room : ℕ} {before after : Page} {bytes : List ℕ} → Put room before after bytes → before.at + room ≤ length before.out.now
    → (out : List ℕ) → out ≡ after.out.now → after.at ≤ length out
put_inside put h out e = rw e (omega (arith, put.as_long, put.place_after, put.short, h))

-- ---- feeding

-- a state that holds less than the longest line needs no more room
held_less : (form : Form) (held read room : ℕ) → held < line_limit → portion_room form longest_line read ≤ room → portion_room form held read ≤ room
held_less Changes held read room h k = omega arith
held_less Record held read room h k = omega arith
held_less (Explain row) held read room h k = omega arith
held_less ExplainAll held read room h k = omega arith

-- nor does a smaller portion
pub read_less : (form : Form) (held read most room : ℕ) → read ≤ most → portion_room form held most ≤ room → portion_room form held read ≤ room
read_less Changes held read most room h k = omega arith
read_less Record held read most room h k = omega arith
read_less (Explain row) held read most room h k = omega arith
read_less ExplainAll held read most room h k = omega arith

-- the code divides the room in place of multiplying the bytes
pub input_room : (form : Form) (bytes room : ℕ) → leb bytes (room / spread form) ≡ leb (spread form * bytes) room
input_room Changes bytes room = leb_iff bytes (room / spread Changes) (spread Changes * bytes) room (λ h. omega arith) (λ h. omega arith)
input_room Record bytes room = leb_iff bytes (room / spread Record) (spread Record * bytes) room (λ h. omega arith) (λ h. omega arith)
input_room (Explain row) bytes room = leb_iff bytes (room / spread (Explain row)) (spread (Explain row) * bytes) room (λ h. omega arith) (λ h. omega arith)
input_room ExplainAll bytes room = leb_iff bytes (room / spread ExplainAll) (spread ExplainAll * bytes) room (λ h. omega arith) (λ h. omega arith)

module _ (r : Replay) (s : List ℕ) (room : ℕ) where
  module _ (e : takes r.form r.cutter.count (length s) room ≡ true) where
    pub taken_short : r.cutter.count < line_limit
    taken_short = ltb-true r.cutter.count line_limit (both_true (ltb r.cutter.count line_limit) (leb (portion_room r.form r.cutter.count (length s)) room) e).0

    pub taken_room : portion_room r.form r.cutter.count (length s) ≤ room
    taken_room = leb-true (portion_room r.form r.cutter.count (length s)) room (both_true (ltb r.cutter.count line_limit) (leb (portion_room r.form r.cutter.count (length s)) room) e).1

    pub taken_answer : feed_answer r s room ≡ fed_by r s
    unfolding fed_if
    taken_answer = ap (λ (t : Bool). fed_if t r s) e

    pub taken_writes : feed_writes r s room ≡ writes r s
    unfolding writes_if
    taken_writes = ap (λ (t : Bool). writes_if t r s) e

  module _ (e : takes r.form r.cutter.count (length s) room ≡ false) where
    pub untaken_answer : feed_answer r s room ≡ record { taken = false; state = r; written = 0 }
    unfolding fed_if
    untaken_answer = ap (λ (t : Bool). fed_if t r s) e

    pub untaken_writes : feed_writes r s room ≡ []
    unfolding writes_if
    untaken_writes = ap (λ (t : Bool). writes_if t r s) e

  -- a replay that began fresh takes every portion that the output has room for
  pub sound_takes : Sound r → portion_room r.form r.cutter.count (length s) ≤ room → takes r.form r.cutter.count (length s) room ≡ true
  sound_takes h k = rw (lt-ltb r.cutter.count line_limit (omega (arith, h.short)), le-leb (portion_room r.form r.cutter.count (length s)) room k)

  pub sound_answer : (x : Fed) → Sound r → portion_room r.form longest_line (length s) ≤ room → x ≡ feed_answer r s room → x ≡ fed_by r s
  sound_answer x h k e = e ∙ taken_answer (sound_takes h (held_less r.form r.cutter.count (length s) room h.short k))

  pub sound_writes : Sound r → portion_room r.form longest_line (length s) ≤ room → feed_writes r s room ≡ writes r s
  sound_writes h k = taken_writes (sound_takes h (held_less r.form r.cutter.count (length s) room h.short k))

-- ---- ending

module _ (r : Replay) (room : ℕ) where
  pub finish_cramped : room < end_room → finish_writes r room ≡ []
  unfolding finish_if
  finish_cramped h = ap (λ (t : Bool). finish_if t r) (lt-leb end_room room h)

  pub finish_roomy : end_room ≤ room → finish_writes r room ≡ ends_with r
  unfolding finish_if
  finish_roomy h = ap (λ (t : Bool). finish_if t r) (le-leb end_room room h)

  pub finish_some : end_room ≤ room → 1 ≤ length (finish_writes r room)
  finish_some h = rw (finish_roomy h) (omega arith)

-- ---- all calls together

-- what the calls hand out, one after the other: a portion each, with an output of `room` bytes, and then the end, with one of
-- `last`, and what was refused
unfoldable pub handed_out : Replay → List (List ℕ) → ℕ → ℕ → Told
handed_out r [] room last = record { notes = []; end = finish_writes r last; refused = refusal_at_end r }
handed_out r (p ∷ ps) room last = written_first (feed_writes r p room) (handed_out (feed_answer r p room).state ps room last)

-- the output has room for each portion and what a state may hold
unfoldable pub room_for : Form → List (List ℕ) → ℕ → Bool
room_for form [] room = true
room_for form (p ∷ ps) room = leb (portion_room form longest_line (length p)) room && room_for form ps room

module _ (room last : ℕ) (k : end_room ≤ last) where
  handed_fed : (r : Replay) (ps : List (List ℕ)) → Sound r → room_for r.form ps room ≡ true → handed_out r ps room last ≡ told_by_portions r ps
  unfolding handed_out room_for told_by_portions finish_if
  handed_fed r [] h e = rw (le-leb end_room last k)
  handed_fed r (p ∷ ps) h e =
      let here = leb (portion_room r.form longest_line (length p)) room in
      let m = leb-true (portion_room r.form longest_line (length p)) room (both_true here (room_for r.form ps room) e).0 in
      let t : takes r.form r.cutter.count (length p) room ≡ true = sound_takes r p room h (held_less r.form r.cutter.count (length p) room h.short m) in
      let q : (feed_answer r p room).state ≡ fed r p = ap (λ (x : Fed). x.state) (taken_answer r p room t) in
      rw (taken_writes r p room t, q) (ap (written_first (writes r p)) (handed_fed (fed r p) ps (fed_sound r p h) (rw (fed_form r p) (both_true here (room_for r.form ps room) e).1)))

  pub told_of_calls : (form : Form) (c : Configuration) (ps : List (List ℕ)) → room_for form ps room ≡ true → handed_out (fresh_replay form c) ps room last ≡ told_of form c (joined ps)
  told_of_calls form c ps e = handed_fed (fresh_replay form c) ps (fresh_sound form c) e ∙ told_of_portions form c ps

  -- whatever the portions, what was refused, and its place, are those of the whole input
  pub refusal_of_calls : (form : Form) (c : Configuration) (ps : List (List ℕ)) → room_for form ps room ≡ true
      → (handed_out (fresh_replay form c) ps room last).refused ≡ (told_of form c (joined ps)).refused
  refusal_of_calls form c ps e = ap (λ (x : Told). x.refused) (told_of_calls form c ps e)

  -- WHAT A TESTER RELIES ON: whatever the portions, what the calls hand out is the replay of the whole input
  pub replay_of_calls : (ps : List (List ℕ)) → room_for Changes ps room ≡ true
      → notes_and_end (handed_out (fresh_replay Changes None) ps room last) ≡ replay_of (joined ps)
  replay_of_calls ps e = ap notes_and_end (told_of_calls Changes None ps e)

  -- and with a configuration, from what its reader answers, whatever the portions of either
  pub configured_replay_of_calls : (cs ps : List (List ℕ)) → room_for Changes ps room ≡ true
      → notes_and_end (handed_out (fresh_replay Changes (Some (end_answer (taken_all fresh_reader cs)))) ps room last) ≡ configured_replay_of (joined cs) (joined ps)
  configured_replay_of_calls cs ps e =
      ap (λ (a : Result ℕ Fault). notes_and_end (handed_out (fresh_replay Changes (Some a)) ps room last)) (config_of_calls cs)
      ∙ ap notes_and_end (told_of_calls Changes (Some (config_of (joined cs))) ps e)

-- what comes before the end does not depend on the end's room
notes_alone : (r : Replay) (ps : List (List ℕ)) (room a b : ℕ) → (handed_out r ps room a).notes ≡ (handed_out r ps room b).notes
unfolding handed_out
notes_alone r [] room a b = refl
notes_alone r (p ∷ ps) room a b = ap (λ (w : List ℕ). feed_writes r p room ++ w) (notes_alone (feed_answer r p room).state ps room a b)

notes_of_calls : (form : Form) (ps : List (List ℕ)) (room last : ℕ) → room_for form ps room ≡ true → (handed_out (fresh_replay form None) ps room last).notes ≡ (told_of form None (joined ps)).notes
notes_of_calls form ps room last e =
    notes_alone (fresh_replay form None) ps room last end_room ∙ ap (λ (x : Told). x.notes) (told_of_calls room end_room (omega arith) form None ps e)

-- WHAT A VIEWER RELIES ON: whatever the portions, what the calls hand out before the end is the record of the whole input
pub record_of_calls : (ps : List (List ℕ)) (room last : ℕ) → room_for Record ps room ≡ true → (handed_out (fresh_replay Record None) ps room last).notes ≡ record_of (joined ps)
record_of_calls = notes_of_calls Record

-- WHAT A STUDENT RELIES ON: and the same of the explanation of a row
pub explanation_of_calls : (row : ℕ) (ps : List (List ℕ)) (room last : ℕ) → room_for (Explain row) ps room ≡ true → (handed_out (fresh_replay (Explain row) None) ps room last).notes ≡ explanation_of row (joined ps)
explanation_of_calls row = notes_of_calls (Explain row)

-- and of the explanations of all rows
pub explanations_of_calls : (ps : List (List ℕ)) (room last : ℕ) → room_for ExplainAll ps room ≡ true → (handed_out (fresh_replay ExplainAll None) ps room last).notes ≡ explanations_of (joined ps)
explanations_of_calls = notes_of_calls ExplainAll
