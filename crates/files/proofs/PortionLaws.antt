-- The replay fed by portions: that what is told is that of the whole input.
-- Assumes nothing.
use mathlib.Core.Path.{◌≡◌, refl, sym, ap, ◌∙◌}
use mathlib.Core.Bool.{Bool, true, false, false≢true}
use mathlib.Core.List.{List, [], ◌∷◌, ◌++◌, append-nil, append_assoc}
use Prim.Native.Nat.{ℕ, ◌≤◌, ◌<◌}
use native.Mathlib.Omega.{arith}
use lib.Dec.{ltb}
use lib.ListN.{length, length-take}
use borrow.Author.Tests.{leb-true, ltb-true, ltb-false}
use Rattle.steps.specs.Configuration.{Configuration}
use Rattle.steps.specs.declared.output.Form.{Form}
use Rattle.steps.specs.declared.output.Form.TheVariants.{Changes, Record, Explain, ExplainAll}
use Rattle.steps.specs.declared.progress.Stage.{Stage}
use Rattle.steps.specs.declared.progress.Stage.TheVariants.{Stopped}
use Rattle.steps.specs.declared.progress.Progress.{Progress}
use Rattle.files.specs.declared.replay.Replay.{Replay}
use Rattle.text.specs.declared.lines.Closer.TheVariants.{CrLf}
use Rattle.text.specs.Lines.{lines_from, Cutting, joined}
use Rattle.text.specs.Cutter.{held_line, cutter_after}
use Rattle.rows.specs.declared.refusal.Refusal.{Refusal}
use Rattle.steps.specs.Progress.{after_by, after_line, wrote_line}
use Rattle.files.specs.Replay.{Told, end_alone, written_first, by_lines, told_of, line_limit, fresh_replay, after_lines, wrote_lines, with_long, lines_in, after_if, cut_portion, fed, fed_all, Reached, writes, last_progress, is_answered}
use Rattle.files.specs.device.Calls.{Sound}
use Rattle.text.proofs.CutLaws.{lines_nil, last_nothing, joined_none, joined_more}
use Rattle.text.proofs.CuttingLaws.{cut_lines, all_read, long_held}
use Rattle.text.proofs.KeptLaws.{empty_holds, line_kept, still_holds}
use Rattle.files.proofs.QuietLaws.{lines_done, quiet_before, quiet_after}
use Rattle.files.proofs.RefusedLaws.{by_nil, stopped_ends, long_misshapen, misshapen_wrote, misshapen_stops, open_ends, long_ends}

-- ---- a sound state stays sound

pub fresh_sound : (form : Form) (c : Configuration) → Sound (fresh_replay form c)
fresh_sound form c = empty_holds CrLf line_limit (omega arith)

pub fed_sound : (r : Replay) (s : List ℕ) → Sound r → Sound (fed r s)
unfolding fed
fed_sound r s h = still_holds CrLf line_limit (omega arith) r.cutter s h

-- ---- states that come of another by some portions

-- the form stays
pub fed_form : (r : Replay) (s : List ℕ) → (fed r s).form ≡ r.form
unfolding fed
fed_form r s = refl

all_form : (r : Replay) (ps : List (List ℕ)) → (fed_all r ps).form ≡ r.form
all_form r [] = refl
all_form r (p ∷ ps) = all_form (fed r p) ps ∙ fed_form r p

pub reached_form : (r q : Replay) → Reached r q → q.form ≡ r.form
reached_form r q a = ap (λ (x : Replay). x.form) a.state ∙ all_form r a.portions

pub reached_here : (r : Replay) → Reached r r
reached_here r = record { portions = []; state = refl }

pub reached_fed : (r q : Replay) (s : List ℕ) → q ≡ fed r s → Reached r q
reached_fed r q s e = record { portions = s ∷ []; state = e }

fed_append : (r : Replay) (ps qs : List (List ℕ)) → fed_all (fed_all r ps) qs ≡ fed_all r (ps ++ qs)
fed_append r [] qs = refl
fed_append r (p ∷ ps) qs = fed_append (fed r p) ps qs

pub reached_on : (r q t : Replay) → Reached r q → Reached q t → Reached r t
reached_on r q t a b =
    record { portions = a.portions ++ b.portions; state = b.state ∙ ap (λ (x : Replay). fed_all x b.portions) a.state ∙ fed_append r a.portions b.portions }

all_sound : (r : Replay) (ps : List (List ℕ)) → Sound r → Sound (fed_all r ps)
all_sound r [] h = h
all_sound r (p ∷ ps) h = all_sound (fed r p) ps (fed_sound r p h)

pub reached_sound : (r q : Replay) → Sound r → Reached r q → Sound q
reached_sound r q h a = rw a.state (all_sound r a.portions h)

-- ---- what is still to be written: the replay, line by line, of the line held and the rest of the input

first_twice : (v w : List ℕ) (x : Told) → written_first v (written_first w x) ≡ written_first (v ++ w) x
first_twice v w x = ap (λ (notes : List ℕ). record { notes = notes; end = x.end; refused = x.refused }) (sym (append_assoc v w x.notes))

pub by_lines_append : (form : Form) (p : Progress) (ls ms : List (List ℕ)) → by_lines form p (ls ++ ms) ≡ written_first (wrote_lines form p ls) (by_lines form (after_lines p ls) ms)
unfolding by_lines wrote_lines after_lines
by_lines_append form p [] ms = refl
by_lines_append form p (l ∷ ls) ms =
    ap (written_first (wrote_line form p l)) (by_lines_append form (after_line p l) ls ms)
    ∙ first_twice (wrote_line form p l) (wrote_lines form (after_line p l) ls) (by_lines form (after_lines (after_line p l) ls) ms)

unfoldable left : Replay → List ℕ → Told
left r s = by_lines r.form r.progress (lines_from CrLf (held_line r.cutter) s)

lines_after : (p : Progress) (ls : List (List ℕ)) (l : List ℕ) → after_lines p (ls ++ (l ∷ [])) ≡ after_line (after_lines p ls) l
unfolding after_lines
lines_after p [] l = refl
lines_after p (m ∷ ls) l = lines_after (after_line p m) ls l

lines_wrote : (form : Form) (p : Progress) (ls : List (List ℕ)) (l : List ℕ) → wrote_lines form p (ls ++ (l ∷ [])) ≡ wrote_lines form p ls ++ wrote_line form (after_lines p ls) l
unfolding after_lines wrote_lines
lines_wrote form p [] l = append-nil (wrote_line form p l)
lines_wrote form p (m ∷ ls) l = ap (λ (w : List ℕ). wrote_line form p m ++ w) (lines_wrote form (after_line p m) ls l) ∙ sym (append_assoc (wrote_line form p m) (wrote_lines form (after_line p m) ls) (wrote_line form (after_lines (after_line p m) ls) l))

module _ (r : Replay) (s t : List ℕ) (h : Sound r) where
  abbrev x : Cutting
  x = cut_portion r s

  abbrev p : Progress
  p = after_lines r.progress x.lines

  -- what comes after the lines that were closed, and what they and a line too long wrote
  abbrev Rest : Bool → Type 0
  Rest b =
      written_first (wrote_lines r.form r.progress x.lines) (by_lines r.form p (lines_from CrLf x.held (x.unread ++ t)))
      ≡ written_first (wrote_lines r.form r.progress (with_long b x.lines x.held)) (by_lines r.form (after_lines r.progress (with_long b x.lines x.held)) (lines_from CrLf (held_line (cutter_after x r.cutter s)) t))

  -- a line too long stops the replay, wherever it ends
  rest_by : (b : Bool) → x.too_long ≡ b → Rest b
  unfolding with_long
  rest_by true e =
      let long : line_limit ≤ length x.held = omega (arith, long_held CrLf line_limit (held_line r.cutter) s e) in
      let wrong = long_misshapen x.held long in
      let stop = misshapen_stops p x.held wrong in
      let w = wrote_lines r.form r.progress x.lines in
      let rest = lines_from CrLf (held_line (cutter_after x r.cutter s)) t in
      let wrote : wrote_lines r.form r.progress (x.lines ++ (x.held ∷ [])) ≡ w = lines_wrote r.form r.progress x.lines x.held ∙ rw (misshapen_wrote r.form p x.held wrong) (append-nil w) in
      ap (written_first w) (long_ends r.form p x.held (x.unread ++ t) long)
      ∙ sym
      (ap (λ (v : List ℕ). written_first v (by_lines r.form (after_lines r.progress (x.lines ++ (x.held ∷ []))) rest)) wrote
      ∙ ap (λ (q : Progress). written_first w (by_lines r.form q rest)) (lines_after r.progress x.lines x.held)
      ∙ ap (written_first w) (stopped_ends r.form (after_line p x.held) stop.with rest stop.stage))
  rest_by false e = rw (all_read CrLf line_limit (held_line r.cutter) s e, line_kept CrLf line_limit (omega arith) r.cutter s h e)

  left_fed : left r (s ++ t) ≡ written_first (writes r s) (left (fed r s) t)
  unfolding left fed writes
  left_fed =
      ap (by_lines r.form r.progress) (cut_lines CrLf line_limit (held_line r.cutter) s t)
      ∙ by_lines_append r.form r.progress x.lines (lines_from CrLf x.held (x.unread ++ t))
      ∙ rest_by x.too_long refl

-- the end of the input
held_nothing : (r : Replay) → r.cutter.count ≡ 0 → held_line r.cutter ≡ []
held_nothing r e = rw e

module _ (r : Replay) (h : Sound r) where
  end_if : (t : Bool) → ltb 0 r.cutter.count ≡ t → left r [] ≡ end_alone (after_if t r.progress (held_line r.cutter))
  unfolding left after_if
  end_if true e =
      let k : 0 < length (held_line r.cutter) = rw length-take (omega (arith, h.short, h.room, ltb-true 0 r.cutter.count e)) in
      open_ends r.form r.progress (held_line r.cutter) k h.unclosed
  end_if false e =
      let z : r.cutter.count ≡ 0 = omega (arith, ltb-false 0 r.cutter.count e) in
      rw (held_nothing r z, lines_nil CrLf [], last_nothing) (by_nil r.form r.progress)

  left_end : left r [] ≡ end_alone (last_progress r)
  left_end = end_if (ltb 0 r.cutter.count) refl

-- ---- portions, one after the other, and then the end

unfoldable pub told_by_portions : Replay → List (List ℕ) → Told
told_by_portions r [] = end_alone (last_progress r)
told_by_portions r (p ∷ ps) = written_first (writes r p) (told_by_portions (fed r p) ps)

portions_left : (r : Replay) (ps : List (List ℕ)) → Sound r → told_by_portions r ps ≡ left r (joined ps)
unfolding told_by_portions
portions_left r [] h = rw joined_none (sym (left_end r h))
portions_left r (p ∷ ps) h = rw (joined_more p ps, portions_left (fed r p) ps (fed_sound r p h)) (sym (left_fed r p (joined ps) h))

-- WHAT IS WRITTEN DOES NOT DEPEND ON THE PORTIONS: for any cutting of the input it is what the whole input gives
pub told_of_portions : (form : Form) (c : Configuration) (ps : List (List ℕ)) → told_by_portions (fresh_replay form c) ps ≡ told_of form c (joined ps)
unfolding told_of left
told_of_portions form c ps = portions_left (fresh_replay form c) ps (fresh_sound form c)

-- ---- once stopped, what follows need not be read

stopped_stays : (g : Stage) (p : Progress) (x : Refusal) (l : List ℕ) → g ≡ Stopped x → after_by g p l ≡ p
unfolding after_by
stopped_stays g p x l e = ap (λ (q : Stage). after_by q p l) e

module _ (r : Replay) (n : Refusal) (e : r.progress.stage ≡ Stopped n) where
  stopped_if : (t : Bool) → end_alone (after_if t r.progress (held_line r.cutter)) ≡ end_alone r.progress
  unfolding after_if
  stopped_if true = ap end_alone (stopped_stays r.progress.stage r.progress n (held_line r.cutter) e)
  stopped_if false = refl

  pub stop_early : (ps : List (List ℕ)) → Sound r → told_by_portions r ps ≡ end_alone (last_progress r)
  unfolding left
  stop_early ps h =
      portions_left r ps h ∙ stopped_ends r.form r.progress n (lines_from CrLf (held_line r.cutter) (joined ps)) e ∙ sym (stopped_if (ltb 0 r.cutter.count))

-- ---- once the asked row is explained, what follows need not be read

answered_by : (form : Form) (p : Progress) (ls : List (List ℕ)) → is_answered form p.done ≡ true → (by_lines form p ls).notes ≡ []
answered_by Changes p ls e = absurd (false≢true e)
answered_by Record p ls e = absurd (false≢true e)
answered_by (Explain row) p ls e = quiet_after row p ls (leb-true row p.done e)
answered_by ExplainAll p ls e = absurd (false≢true e)

pub answered_early : (r : Replay) (ps : List (List ℕ)) → Sound r → is_answered r.form r.progress.done ≡ true → (told_by_portions r ps).notes ≡ []
unfolding left
answered_early r ps h e =
    ap (λ (x : Told). x.notes) (portions_left r ps h) ∙ answered_by r.form r.progress (lines_from CrLf (held_line r.cutter) (joined ps)) e

-- ---- as long as the rows done have not come to it, nothing was written

module _ (row : ℕ) where
  fed_done : (r : Replay) (s : List ℕ) → (fed r s).progress ≡ after_lines r.progress (lines_in (cut_portion r s))
  unfolding fed
  fed_done r s = refl

  all_done : (r : Replay) (ps : List (List ℕ)) → r.progress.done ≤ (fed_all r ps).progress.done
  all_done r [] = omega arith
  all_done r (p ∷ ps) =
      let here : r.progress.done ≤ (fed r p).progress.done = rw (fed_done r p) (lines_done r.progress (lines_in (cut_portion r p))) in
      omega (arith, here, all_done (fed r p) ps)

  unanswered_writes : (r : Replay) (s : List ℕ) → r.form ≡ Explain row → (fed r s).progress.done < row → writes r s ≡ []
  unfolding writes
  unanswered_writes r s e h =
      ap (λ (form : Form). wrote_lines form r.progress (lines_in (cut_portion r s))) e
      ∙ quiet_before row r.progress (lines_in (cut_portion r s)) (rw (fed_done r s) at h)

  pub unanswered_quiet : (r : Replay) (ps : List (List ℕ)) → r.form ≡ Explain row → (fed_all r ps).progress.done < row
      → (told_by_portions r ps).notes ≡ []
  unfolding told_by_portions
  unanswered_quiet r [] e h = refl
  unanswered_quiet r (p ∷ ps) e h =
      rw (unanswered_writes r p e (omega (arith, all_done (fed r p) ps, h))) (unanswered_quiet (fed r p) ps (fed_form r p ∙ e) h)
