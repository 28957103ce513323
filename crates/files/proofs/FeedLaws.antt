-- How far the code has come in a portion, line by line.
-- Assumes nothing.
use mathlib.Core.Path.{◌≡◌, refl, sym, ap, ◌∙◌}
use mathlib.Core.Bool.{Bool, true, false}
use mathlib.Core.List.{List, [], ◌∷◌, ◌++◌, append-nil}
use Prim.Native.Nat.{ℕ, ◌+◌, ◌*◌, ◌≤◌, ◌<◌}
use native.Mathlib.Nat.{add-zero}
use native.Mathlib.Omega.{arith}
use lib.ListN.{length, drop, length-append, length-take, drop_of_length-le}
use lib.Seq.{sets}
use Rattle.text.specs.declared.lines.Closer.TheVariants.{CrLf}
use Rattle.text.specs.declared.lines.Cut.{Cut}
use Rattle.text.specs.declared.lines.Cut.TheVariants.{Held, Closed, TooLong}
use Rattle.text.specs.declared.cutter.Cutter.{Cutter}
use Rattle.text.specs.declared.cutter.PieceCut.{PieceCut}
use Rattle.text.specs.declared.page.Page.{Page}
use Rattle.text.specs.device.Page.{Put}
use Rattle.text.specs.Lines.{Cutting, one_more, cutting_by, cut_so_far, cutting}
use Rattle.text.specs.Cutter.{held_room, empty_cutter, held_line, held_after, cutter_after, piece_answer}
use Rattle.steps.specs.declared.output.Form.{Form}
use Rattle.steps.specs.declared.output.Form.TheVariants.{Changes, Record, Explain, ExplainAll}
use Rattle.steps.specs.declared.progress.Progress.{Progress}
use Rattle.files.specs.declared.replay.Replay.{Replay}
use Rattle.steps.specs.Output.{spread}
use Rattle.steps.specs.Progress.{after_line, wrote_line}
use Rattle.files.specs.Replay.{line_limit, after_lines, wrote_lines, with_long, lines_in, cut_portion, fed_cut, fed, writes}
use Rattle.files.specs.device.Calls.{PortionFed}
use Rattle.text.proofs.StoreLaws.{sets_append}
use Rattle.text.proofs.PieceLaws.{PieceTaken, piece_taken, cutting_goes_on}
use Rattle.text.proofs.KeptLaws.{line_taken_law}

-- ---- the rest of a portion from the place i on, by what the next piece did

more_by_law : (b : Bool) (l : List ℕ) (ls : List (List ℕ)) (held : List ℕ) → with_long b (l ∷ ls) held ≡ l ∷ with_long b ls held
unfolding with_long
more_by_law true l ls held = refl
more_by_law false l ls held = refl

lines_more : (l : List ℕ) (x : Cutting) → lines_in (one_more l x) ≡ l ∷ lines_in x
lines_more l x = more_by_law x.too_long l x.lines x.held

-- a line that is cut at the front, and the rest
module _ (s : Replay) (portion line rest : List ℕ) where
  abbrev pub line_taken : Replay
  line_taken = record { form = s.form; progress = after_line s.progress line; cutter = empty_cutter }

  abbrev onward : Cutter → Replay
  onward c = record { form = s.form; progress = (fed_cut line_taken rest (cut_portion line_taken rest)).progress; cutter = c }

  abbrev after : List (List ℕ) → Replay
  after ls = record { form = s.form; progress = after_lines s.progress ls; cutter = cutter_after (one_more line (cut_portion line_taken rest)) s.cutter portion }

  pub fed_more : cut_portion s portion ≡ one_more line (cut_portion line_taken rest) → fed s portion ≡ fed line_taken rest
  unfolding fed after_lines
  fed_more e =
      ap (fed_cut s portion) e
      ∙ ap after (lines_more line (cut_portion line_taken rest))
      ∙ ap onward (line_taken_law CrLf line_limit s.cutter portion line rest)

  pub wrote_more : cut_portion s portion ≡ one_more line (cut_portion line_taken rest) → writes s portion ≡ wrote_line s.form s.progress line ++ writes line_taken rest
  unfolding writes wrote_lines
  wrote_more e =
      ap (λ (x : Cutting). wrote_lines s.form s.progress (lines_in x)) e
      ∙ ap (wrote_lines s.form s.progress) (lines_more line (cut_portion line_taken rest))

module _ (s : Replay) (p : List ℕ) (i : ℕ) (short : s.cutter.count < line_limit) (room : length s.cutter.held ≡ held_room) (k : PieceCut)
    (answer : k ≡ piece_answer CrLf line_limit s.cutter p i) where
  abbrev line : List ℕ
  line = held_line k.cutter

  -- with the line taken
  abbrev next : Replay
  next = record { form = s.form; progress = after_line s.progress line; cutter = empty_cutter }

  abbrev cut_as : Cut → Cutting
  cut_as t = cutting_by t line (drop k.next p) (cut_so_far line) (cut_portion next (drop k.next p))

  piece : PieceTaken CrLf line_limit s.cutter p i k
  piece = piece_taken CrLf line_limit s.cutter p i short (omega arith) room k answer

  cut_here : (t : Cut) → k.cut ≡ t → cut_portion s (drop i p) ≡ cut_as t
  cut_here t e = cutting_goes_on CrLf line_limit s.cutter p i short (omega arith) room k answer ∙ ap cut_as e

  abbrev still : Cutter → Replay
  still c = record { form = s.form; progress = s.progress; cutter = c }

  fed_held : k.cut ≡ Held → fed s (drop i p) ≡ still k.cutter
  unfolding fed after_lines with_long held_after
  fed_held e = ap (fed_cut s (drop i p)) (cut_here Held e) ∙ ap still (sym (piece.all e))

  fed_long : k.cut ≡ TooLong → fed s (drop i p) ≡ next
  unfolding fed after_lines with_long held_after
  fed_long e = ap (fed_cut s (drop i p)) (cut_here TooLong e)

  fed_closed : k.cut ≡ Closed → fed s (drop i p) ≡ fed next (drop k.next p)
  fed_closed e = fed_more s (drop i p) line (drop k.next p) (cut_here Closed e)

  abbrev wrote_cut : Cutting → List ℕ
  wrote_cut x = wrote_lines s.form s.progress (lines_in x)

  wrote_held : k.cut ≡ Held → writes s (drop i p) ≡ []
  unfolding writes wrote_lines with_long
  wrote_held e = ap wrote_cut (cut_here Held e)

  wrote_long : k.cut ≡ TooLong → writes s (drop i p) ≡ wrote_line s.form s.progress line
  unfolding writes wrote_lines with_long
  wrote_long e = ap wrote_cut (cut_here TooLong e) ∙ append-nil (wrote_line s.form s.progress line)

  wrote_closed : k.cut ≡ Closed → writes s (drop i p) ≡ wrote_line s.form s.progress line ++ writes next (drop k.next p)
  wrote_closed e = wrote_more s (drop i p) line (drop k.next p) (cut_here Closed e)

-- ---- what holds of a portion at its place i: the state s and the rest of the portion give what the whole gives

-- the room that is left: a byte held or still to be read may write as many as it spreads to
room_left : (form : Form) (start at held i begun total : ℕ) → at + spread form * held ≤ start + spread form * (begun + i) → i ≤ total
    → at ≤ start + spread form * (begun + total)
room_left Changes start at held i begun total h k = omega arith
room_left Record start at held i begun total h k = omega arith
room_left (Explain row) start at held i begun total h k = omega arith
room_left ExplainAll start at held i begun total h k = omega arith

line_fits : (form : Form) (start at held count i next begun total : ℕ) → at + spread form * held ≤ start + spread form * (begun + i) → count + i ≡ held + next → next ≤ total
    → at + spread form * count ≤ start + spread form * (begun + total)
line_fits Changes start at held count i next begun total h e k = omega arith
line_fits Record start at held count i next begun total h e k = omega arith
line_fits (Explain row) start at held count i next begun total h e k = omega arith
line_fits ExplainAll start at held count i next begun total h e k = omega arith

pub record FeedTurn (r : Replay) (p : List ℕ) (before : Page) (i : ℕ) (s : Replay) (now : Page) : Type 0 where
  pub within : i ≤ length p
  pub same_buffer : now.out.ghost_name ≡ before.out.ghost_name
  pub as_long : length now.out.now ≡ length before.out.now
  pub room : length s.cutter.held ≡ held_room
  pub short : s.cutter.count < line_limit
  pub same : s.form ≡ r.form
  pub little : now.at + spread r.form * s.cutter.count ≤ before.at + spread r.form * (r.cutter.count + i)
  pub state : fed r p ≡ fed s (drop i p)
  pub place : before.at + length (writes r p) ≡ now.at + length (writes s (drop i p))
  pub bytes : sets before.out.now before.at (writes r p) ≡ sets now.out.now now.at (writes s (drop i p))

pub turn_first : (r : Replay) (p : List ℕ) (page : Page) → length r.cutter.held ≡ held_room → r.cutter.count < line_limit → FeedTurn r p page 0 r page
turn_first r p page room short = record {
  within = omega arith;
  same_buffer = refl;
  as_long = refl;
  room = room;
  short = short;
  same = refl;
  little = rw (add-zero r.cutter.count) (omega arith);
  state = refl;
  place = refl;
  bytes = refl;
}

module _ (r : Replay) (p : List ℕ) (before : Page) (i : ℕ) (s : Replay) (now : Page) (turn : FeedTurn r p before i s now) where
  -- where the rest writes nothing
  over : (q : Replay) → fed s (drop i p) ≡ q → writes s (drop i p) ≡ [] → PortionFed r p before now q
  over q f none =
      let place : before.at + length (writes r p) ≡ now.at = turn.place ∙ rw none (add-zero now.at) in
      let room = room_left r.form before.at now.at s.cutter.count i r.cutter.count (length p) turn.little turn.within in
      record {
        state = sym (turn.state ∙ f);
        put = record {
          same_buffer = turn.same_buffer;
          as_long = turn.as_long;
          place_after = sym place;
          output = sym (turn.bytes ∙ ap (sets now.out.now now.at) none);
          short = omega (arith, place, room);
        };
      }

  pub turn_last : length p ≤ i → PortionFed r p before now s
  unfolding fed writes cutting after_lines wrote_lines with_long held_after
  turn_last l =
      let none : drop i p ≡ [] = drop_of_length-le p l in
      over s (rw (none, add-zero s.cutter.count)) (rw none)

  module _ (more : i < length p) (k : PieceCut) (answer : k ≡ piece_answer CrLf line_limit s.cutter p i) where
    pub taken : PieceTaken CrLf line_limit s.cutter p i k
    taken = piece s p i turn.short turn.room k answer

    line_long : length (held_line k.cutter) ≡ k.cutter.count
    line_long = rw length-take (omega (arith, taken.fits, taken.room))

    -- the line has room on the page
    pub line_room_law : now.at + spread r.form * length (held_line k.cutter) ≤ before.at + spread r.form * (r.cutter.count + length p)
    line_room_law =
        rw line_long (line_fits r.form before.at now.at s.cutter.count k.cutter.count i k.next r.cutter.count (length p) turn.little taken.counted (taken.within more))

    pub turn_held : k.cut ≡ Held → PortionFed r p before now (record { form = s.form; progress = s.progress; cutter = k.cutter })
    turn_held told =
        over (record { form = s.form; progress = s.progress; cutter = k.cutter }) (fed_held s p i turn.short turn.room k answer told) (wrote_held s p i turn.short turn.room k answer told)

    module _ (progress : Progress) (after : Page) (e : progress ≡ after_line s.progress (held_line k.cutter))
        (put : Put (spread s.form * length (held_line k.cutter)) now after (wrote_line s.form s.progress (held_line k.cutter))) where
      abbrev q : Replay
      q = next s p i turn.short turn.room k answer

      abbrev w : List ℕ
      w = wrote_line s.form s.progress (held_line k.cutter)

      begun : record { form = s.form; progress = progress; cutter = empty_cutter } ≡ q
      begun = rw e

      line_short : length w ≤ spread r.form * length (held_line k.cutter)
      line_short =
          let same : spread s.form * length (held_line k.cutter) ≡ spread r.form * length (held_line k.cutter) = ap (λ (f : Form). spread f * length (held_line k.cutter)) turn.same in
          omega (arith, same, put.short)

      -- a line too long is taken as far as it was read, and the rest is not looked at
      pub turn_long : k.cut ≡ TooLong → PortionFed r p before after (record { form = s.form; progress = progress; cutter = empty_cutter })
      turn_long told =
          let wrote : writes s (drop i p) ≡ w = wrote_long s p i turn.short turn.room k answer told in
          let place : before.at + length (writes r p) ≡ now.at + length w = turn.place ∙ rw wrote in
          record {
            state = begun ∙ sym (turn.state ∙ fed_long s p i turn.short turn.room k answer told);
            put = record {
              same_buffer = put.same_buffer ∙ turn.same_buffer;
              as_long = put.as_long ∙ turn.as_long;
              place_after = put.place_after ∙ sym place;
              output = put.output ∙ sym (turn.bytes ∙ ap (sets now.out.now now.at) wrote);
              short = omega (arith, place, line_short, line_room_law);
            };
          }

      pub turn_closed : k.cut ≡ Closed → FeedTurn r p before k.next (record { form = s.form; progress = progress; cutter = empty_cutter }) after
      turn_closed told =
          let ws = writes q (drop k.next p) in
          let on : writes s (drop i p) ≡ w ++ ws = wrote_closed s p i turn.short turn.room k answer told in
          let size : length (writes s (drop i p)) ≡ length w + length ws = ap length on ∙ length-append w ws in
          let here = line_fits r.form before.at now.at s.cutter.count k.cutter.count i k.next r.cutter.count k.next turn.little taken.counted (omega arith) in
          rw begun (record {
            within = taken.within more;
            same_buffer = put.same_buffer ∙ turn.same_buffer;
            as_long = put.as_long ∙ turn.as_long;
            room = refl;
            short = omega arith;
            same = turn.same;
            little = omega (arith, rw line_long at line_short, put.place_after, here);
            state = turn.state ∙ fed_closed s p i turn.short turn.room k answer told;
            place = omega (arith, turn.place, size, put.place_after);
            bytes = turn.bytes ∙ ap (sets now.out.now now.at) on ∙ sets_append now.out.now now.at w ws ∙ rw (put.output, put.place_after);
          })
