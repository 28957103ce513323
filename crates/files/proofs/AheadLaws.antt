-- Rows that are read at the front of what is left of a portion: each is the line that the cutter would cut, and its tick by the plan
-- the tick of that line.
-- Assumes nothing.
use mathlib.Core.Path.{◌≡◌, refl, sym, ap, ◌∙◌}
use mathlib.Core.Bool.{true, ◌&&◌, false≢true}
use mathlib.Core.List.{List, [], ◌++◌, append_assoc}
use Prim.Native.Nat.{ℕ, ◌+◌, ◌*◌, ◌-◌, ◌≤◌}
use native.Mathlib.Omega.{arith}
use lib.Dec.{eqb}
use lib.ListN.{length, drop, length-append}
use lib.Seq.{sets}
use borrow.Author.Tests.{eqb-true}
use Rattle.checks.specs.Checks.{first_failed}
use Rattle.checks.proofs.Tests.{both_true}
use Rattle.text.specs.declared.lines.Closer.TheVariants.{CrLf}
use Rattle.text.specs.Lines.{one_more, cutting}
use Rattle.text.specs.declared.page.Page.{Page}
use Rattle.text.specs.device.Page.{Put}
use Rattle.text.proofs.PageLaws.{put_then, put_nothing}
use Rattle.text.proofs.StoreLaws.{sets_append}
use Rattle.phase.specs.declared.settings.Settings.{Settings}
use Rattle.phase.specs.device.Ranges.{InRange}
use Rattle.phase.specs.Settings.{settings_refusal}
use Rattle.relay.specs.device.Step.{relay_of, courses_from}
use Rattle.relay.specs.declared.state.RelayState.{RelayState}
use Rattle.relay.specs.State.{valid_relay}
use Rattle.relay.specs.Tick.{next_relay, relay_checks, relay_tick_answer}
use Rattle.relay.proofs.RelayLaws.{is_three, next_three, begins_ready, step_leaves_ready, settings_not_refused, relay_passed, relay_tick_allowed, relay_tick_accepted}
use Rattle.rows.specs.declared.row.Row.{Row}
use Rattle.std.specs.Prelude.{Ok}
use Rattle.rows.specs.declared.front.Front.{Front}
use Rattle.rows.specs.Row.{row_answer, last_row}
use Rattle.rows.proofs.FrontRowLaws.{AtFront}
use Rattle.rows.proofs.RowLaws.{accepted_row}
use Rattle.steps.specs.Configuration.{Configuration}
use Rattle.steps.specs.declared.output.Form.{Form}
use Rattle.steps.specs.declared.output.Form.TheVariants.{Changes, Record, Explain, ExplainAll}
use Rattle.steps.specs.declared.progress.Progress.{Progress}
use Rattle.steps.specs.declared.progress.Stage.{Stage}
use Rattle.steps.specs.declared.progress.Stage.TheVariants.{Opening, Running, Stopped}
use Rattle.steps.specs.Output.{change_room, spread}
use Rattle.steps.specs.Progress.{after_line, wrote_line, after_by, wrote_by, stepped, noted}
use Rattle.files.specs.declared.ahead.Way.{Way}
use Rattle.files.specs.declared.ahead.Ahead.{Ahead}
use Rattle.files.specs.declared.replay.Replay.{Replay}
use Rattle.files.specs.Replay.{line_limit, fed, writes, cut_portion, portion_room}
use Rattle.files.specs.device.Ahead.{writes_changes, is_running, is_quick, way_from, progress_on, byte_at, way_after, change_at, WayReady, still, Onward, RowsRan, RanAhead}
use Rattle.files.proofs.FeedLaws.{FeedTurn, fed_more, wrote_more}

-- ---- one row

module _ (c : Configuration) (settings : Settings) (way : Way) (line : List ℕ) (x : Row) (ready : WayReady settings way) (read : row_answer line way.done ≡ Ok x) where
  abbrev now : Progress
  now = progress_on c settings way

  ticked_right : relay_tick_answer settings (relay_of way.courses) x.sample.l1 x.sample.l2 x.sample.l3 x.sample.block ≡ record { refusal = 0; state = next_relay settings (relay_of way.courses) x.sample.l1 x.sample.l2 x.sample.l3; outputs = byte_at settings way x }
  ticked_right =
      relay_tick_accepted settings (relay_of way.courses) x.sample.l1 x.sample.l2 x.sample.l3 x.sample.block
      (relay_tick_allowed settings (relay_of way.courses) x.sample.block ready.accepted ready.step.valid (accepted_row line way.done x read).block)

  row_after : after_line now line ≡ progress_on c settings (way_after settings way x)
  unfolding after_by
  row_after =
      let after = next_relay settings (relay_of way.courses) x.sample.l1 x.sample.l2 x.sample.l3 in
      ap (stepped now) read
      ∙ rw ticked_right
      (ap (λ (r : RelayState). record { configuration = c; stage = Running; settings = settings; relay = r; done = way.done + 1; outputs = byte_at settings way x }) (is_three after (next_three settings (relay_of way.courses) x.sample.l1 x.sample.l2 x.sample.l3)))

  row_wrote : wrote_line Changes now line ≡ change_at settings way x
  unfolding wrote_by
  row_wrote = ap (noted Changes now) read ∙ rw ticked_right

-- ---- from place to place

onward_none : (portion : List ℕ) (i : ℕ) (s : Replay) → i ≤ length portion → Onward portion i s i s []
onward_none portion i s h = record { farther = omega arith; within = h; state = refl; bytes = refl; short = omega arith }

onward_then : (portion : List ℕ) (i j k : ℕ) (s t u : Replay) (v w : List ℕ) → Onward portion i s j t v → Onward portion j t k u w → s.form ≡ t.form → Onward portion i s k u (v ++ w)
onward_then portion i j k s t u v w a b same = record {
  farther = omega (arith, a.farther, b.farther);
  within = b.within;
  state = a.state ∙ b.state;
  bytes = a.bytes ∙ ap (λ (z : List ℕ). v ++ z) b.bytes ∙ sym (append_assoc v w (writes u (drop k portion)));
  short = omega (arith, a.short, rw (← same) at b.short, length-append v w);
}

module _ (settings : Settings) (way : Way) (portion : List ℕ) (i : ℕ) (x : Front) (ready : WayReady settings way) (f : AtFront portion i way.done x) where
  -- room for its change line
  pub front_room_law : i + change_room ≤ x.next
  front_room_law = omega (arith, f.place, (accepted_row f.line way.done x.row f.accepted).long)

  pub front_number : way.done + 1 ≤ last_row
  front_number = omega (arith, (accepted_row f.line way.done x.row f.accepted).number)

  front_on : (c : Configuration) → (wrote : List ℕ) → wrote ≡ change_at settings way x.row → length wrote ≤ change_room
      → Onward portion i (still Changes (progress_on c settings way)) x.next (still Changes (progress_on c settings (way_after settings way x.row))) wrote
  front_on c wrote w few =
      let s = still Changes (progress_on c settings way) in
      let line = f.line in
      let rest = drop x.next portion in
      let cut : cut_portion s (drop i portion) ≡ one_more line (cutting CrLf line_limit [] rest) = ap (cutting CrLf line_limit []) f.here ∙ f.cut rest in
      let after = row_after c settings way line x.row ready f.accepted in
      record {
        farther = omega (arith, f.farther);
        within = f.within;
        state = fed_more s (drop i portion) line rest cut ∙ ap (λ (q : Progress). fed (still Changes q) rest) after;
        bytes = wrote_more s (drop i portion) line rest cut ∙ rw (after, row_wrote c settings way line x.row ready f.accepted, ← w);
        short = omega (arith, few, front_room_law);
      }

-- ---- the rows one after the other

-- what was written is as long as it is
exact : {room : ℕ} {a b : Page} {bytes : List ℕ} → Put room a b bytes → Put (length bytes) a b bytes
exact w = record { same_buffer = w.same_buffer; as_long = w.as_long; place_after = w.place_after; output = w.output; short = omega arith }

pub rows_first : (settings : Settings) (begun : Way) (portion : List ℕ) (from : ℕ) (page : Page) → from ≤ length portion → RowsRan settings begun portion from page page (record { reached = begun; next = from })
rows_first settings begun portion from page h =
    record { wrote = []; on = λ c. onward_none portion from (still Changes (progress_on c settings begun)) h; put = put_nothing page 0 }

pub rows_again : (settings : Settings) (begun way after : Way) (portion : List ℕ) (from next : ℕ) (before now then : Page) (x : Front)
    → RowsRan settings begun portion from before now (record { reached = way; next = next })
    → WayReady settings way → AtFront portion next way.done x → after ≡ way_after settings way x.row
    → Put change_room now then (change_at settings way x.row)
    → RowsRan settings begun portion from before then (record { reached = after; next = x.next })
rows_again settings begun way after portion from next before now then x r ready f a w =
    let change = change_at settings way x.row in
    record {
      wrote = r.wrote ++ change;
      on = λ c. rw a (onward_then portion from next x.next _ _ _ r.wrote change (r.on c) (front_on settings way portion next x ready f c change refl w.short) refl);
      put = exact (put_then r.put w);
    }

pub ready_again : (settings : Settings) (way after : Way) (x : Row) → WayReady settings way → after ≡ way_after settings way x → WayReady settings after
ready_again settings way after x r a =
    rw a (record { step = step_leaves_ready settings way.courses x.sample.l1 x.sample.l2 x.sample.l3 x.sample.block r.step; accepted = r.accepted })

-- the room that is left
pub rows_room : (settings : Settings) (begun : Way) (portion : List ℕ) (from : ℕ) (before now : Page) (r : Ahead Way) (c : Configuration) → RowsRan settings begun portion from before now r → before.at + (length portion - from) ≤ length before.out.now → now.at + (length portion - r.next) ≤ length now.out.now
rows_room settings begun portion from before now r c ran h =
    let on = ran.on c in
    omega (arith, h, ran.put.place_after, ran.put.as_long, on.short, on.farther, on.within)

-- ---- a replay that runs rows so

pub record Quick (form : Form) (p : Progress) : Type 0 where
  pub changes : form ≡ Changes
  pub running : p.stage ≡ Running
  pub range : InRange p.settings
  pub valid : valid_relay p.settings p.relay ≡ true
  pub accepted : settings_refusal p.settings ≡ 0

is_changes : (form : Form) → writes_changes form ≡ true → form ≡ Changes
is_changes Changes e = refl
is_changes Record e = absurd (false≢true e)
is_changes (Explain row) e = absurd (false≢true e)
is_changes ExplainAll e = absurd (false≢true e)

runs : (stage : Stage) → is_running stage ≡ true → stage ≡ Running
runs Opening e = absurd (false≢true e)
runs Running e = refl
runs (Stopped x) e = absurd (false≢true e)

pub quick : (form : Form) (p : Progress) → is_quick form p ≡ true → Quick form p
quick form p e =
    let (front, own) = both_true (writes_changes form && is_running p.stage) (eqb (first_failed (relay_checks p.settings p.relay) 0) 0) e in
    let (changes, running) = both_true (writes_changes form) (is_running p.stage) front in
    let none = eqb-true (first_failed (relay_checks p.settings p.relay) 0) 0 own in
    let passed = relay_passed p.settings p.relay 0 none in
    record {
      changes = is_changes form changes;
      running = runs p.stage running;
      range = passed.range;
      valid = passed.valid;
      accepted = settings_not_refused p.settings _ none;
    }

pub way_ready : (form : Form) (p : Progress) → Quick form p → WayReady p.settings (way_from p)
way_ready form p q = record { step = begins_ready p.settings p.relay q.valid; accepted = q.accepted }

-- the way that begins at a progress is that progress
begins_at : (form : Form) (p : Progress) → Quick form p → length p.relay.phases ≡ 3 → progress_on p.configuration p.settings (way_from p) ≡ p
begins_at form p q long =
    ap (λ (s : Stage). record { configuration = p.configuration; stage = s; settings = p.settings; relay = relay_of (courses_from p.settings p.relay); done = p.done; outputs = p.outputs }) (sym q.running)
    ∙ ap (λ (r : RelayState). record { configuration = p.configuration; stage = p.stage; settings = p.settings; relay = r; done = p.done; outputs = p.outputs }) (sym (is_three p.relay long))

pub ran_ahead : (form : Form) (p : Progress) (portion : List ℕ) (from : ℕ) (before after : Page) (r : Ahead Way) (progress : Progress)
    → Quick form p → length p.relay.phases ≡ 3 → RowsRan p.settings (way_from p) portion from before after r
    → progress ≡ progress_on p.configuration p.settings r.reached → RanAhead form p portion from before after (record { reached = progress; next = r.next })
ran_ahead form p portion from before after r progress q long ran end =
    record {
      wrote = ran.wrote;
      on = rw q.changes (rw (sym end) at (rw (begins_at form p q long) at (ran.on p.configuration)));
      put = ran.put;
    }

-- and one that does not
pub not_ahead : (form : Form) (p : Progress) (portion : List ℕ) (from : ℕ) (page : Page) → from ≤ length portion → RanAhead form p portion from page page (record { reached = p; next = from })
not_ahead form p portion from page h = record { wrote = []; on = onward_none portion from (still form p) h; put = put_nothing page 0 }

-- ---- the turns of a portion

pub turn_ahead : (r : Replay) (p : List ℕ) (before : Page) (i : ℕ) (progress : Progress) (now after : Page) (x : Ahead Progress)
    → FeedTurn r p before i (still r.form progress) now → RanAhead r.form progress p i now after x
    → FeedTurn r p before x.next (still r.form x.reached) after
turn_ahead r p before i progress now after x turn ran =
    let on = ran.on in
    let put = ran.put in
    let ws = writes (still r.form x.reached) (drop x.next p) in
    let size : length (writes (still r.form progress) (drop i p)) ≡ length ran.wrote + length ws = ap length on.bytes ∙ length-append ran.wrote ws in
    record {
      within = on.within;
      same_buffer = put.same_buffer ∙ turn.same_buffer;
      as_long = put.as_long ∙ turn.as_long;
      room = turn.room;
      short = turn.short;
      same = refl;
      little = little_on r.form before.at now.at (length ran.wrote) after.at i x.next r.cutter.count turn.little on.short put.place_after;
      state = turn.state ∙ on.state;
      place = omega (arith, turn.place, size, put.place_after);
      bytes = turn.bytes ∙ ap (sets now.out.now now.at) on.bytes ∙ sets_append now.out.now now.at ran.wrote ws ∙ rw (put.output, put.place_after);
    }
  where
    little_on : (form : Form) (start at wrote written i j begun : ℕ) → at + spread form * 0 ≤ start + spread form * (begun + i) → wrote + spread form * i ≤ spread form * j → written ≡ at + wrote → written + spread form * 0 ≤ start + spread form * (begun + j)
    little_on Changes start at wrote written i j begun h k e = omega arith
    little_on Record start at wrote written i j begun h k e = omega arith
    little_on (Explain row) start at wrote written i j begun h k e = omega arith
    little_on ExplainAll start at wrote written i j begun h k e = omega arith

-- the room that the rest of a portion has
pub turn_room : (r : Replay) (p : List ℕ) (before : Page) (i : ℕ) (progress : Progress) (now : Page) → FeedTurn r p before i (still r.form progress) now
    → before.at + portion_room r.form r.cutter.count (length p) ≤ length before.out.now → now.at + spread r.form * (length p - i) ≤ length now.out.now
turn_room r p before i progress now turn h =
    rw turn.as_long (room_on r.form before.at now.at i r.cutter.count (length p) (length before.out.now) turn.little turn.within h)
  where
    room_on : (form : Form) (start at i begun total room : ℕ) → at + spread form * 0 ≤ start + spread form * (begun + i) → i ≤ total → start + spread form * (begun + total) ≤ room → at + spread form * (total - i) ≤ room
    room_on Changes start at i begun total room h k e = omega arith
    room_on Record start at i begun total room h k e = omega arith
    room_on (Explain row) start at i begun total room h k e = omega arith
    room_on ExplainAll start at i begun total room h k e = omega arith
