-- Lines that are refused whatever follows, and a replay that has stopped.
-- Assumes nothing.
use mathlib.Core.Path.{◌≡◌, refl, ap, ◌∙◌}
use mathlib.Core.Bool.{false}
use mathlib.Core.List.{List, [], ◌∷◌, ◌++◌}
use Prim.Native.Nat.{ℕ, ◌≤◌, ◌<◌}
use native.Mathlib.Omega.{arith}
use lib.ListN.{length, length-append}
use Rattle.steps.specs.declared.output.Form.{Form}
use Rattle.steps.specs.declared.progress.Stage.{Stage}
use Rattle.steps.specs.declared.progress.Stage.TheVariants.{Opening, Running, Stopped}
use Rattle.steps.specs.declared.progress.Progress.{Progress}
use Rattle.text.specs.Line.{ends_cr_lf, right_shape}
use Rattle.text.specs.declared.lines.Closer.TheVariants.{CrLf}
use Rattle.text.specs.Lines.{lines_from}
use Rattle.text.proofs.ShapeLaws.{right_ends}
use Rattle.faults.proofs.RightLaws.{Faulty, wrong_faulty}
use Rattle.text.proofs.CutLaws.{lines_cons, lines_nil, last_line_law}
use Rattle.rows.specs.declared.refusal.Refusal.{Refusal}
use Rattle.rows.specs.Refusal.{misshapen}
use Rattle.rows.specs.Widths.{row_widths, settings_widths}
use Rattle.rows.proofs.RowLaws.{row_misshapen}
use Rattle.rows.proofs.SettingsLineLaws.{settings_misshapen}
use Rattle.rows.proofs.FrontLaws.{long_faulty, row_front, settings_front}
use Rattle.steps.specs.Progress.{opened, stepped, after_by, wrote_by, after_line, wrote_line}
use Rattle.files.specs.Replay.{end_alone, written_first, by_lines, line_limit}
use Rattle.checks.proofs.Cases.{by_cond, not_both, not_true}

-- ---- a line of neither shape

-- the line is neither a row nor a settings line
pub record Misshapen (l : List ℕ) : Type 0 where
  pub no_row : Faulty row_widths l
  pub no_settings_law : Faulty settings_widths l

-- one that is too long
pub long_misshapen : (l : List ℕ) → line_limit ≤ length l → Misshapen l
long_misshapen l h = record {
  no_row = long_faulty row_widths l (omega arith) (omega (arith, h));
  no_settings_law = long_faulty settings_widths l (omega arith) (omega (arith, h));
}

-- one that is not closed
pub open_misshapen : (l : List ℕ) → ends_cr_lf l ≡ false → Misshapen l
open_misshapen l h = record {
  no_row = wrong_faulty row_widths l (omega arith) (not_true (right_shape row_widths l) (λ e. not_both (ends_cr_lf l) (right_ends row_widths l e) h));
  no_settings_law = wrong_faulty settings_widths l (omega arith) (not_true (right_shape settings_widths l) (λ e. not_both (ends_cr_lf l) (right_ends settings_widths l e) h));
}

-- it writes nothing
misshapen_by : (g : Stage) (form : Form) (p : Progress) (l : List ℕ) → Misshapen l → wrote_by g form p l ≡ []
unfolding wrote_by
misshapen_by Opening form p l h = refl
misshapen_by Running form p l h = rw (row_misshapen l p.done h.no_row.fault h.no_row.shape)
misshapen_by (Stopped x) form p l h = refl

pub misshapen_wrote : (form : Form) (p : Progress) (l : List ℕ) → Misshapen l → wrote_line form p l ≡ []
misshapen_wrote form p l h = misshapen_by p.stage form p l h

-- after it the replay has stopped
pub record HasStopped (p : Progress) : Type 0 where
  pub with : Refusal
  pub stage : p.stage ≡ Stopped with

stops_by : (g : Stage) (p : Progress) (l : List ℕ) → p.stage ≡ g → Misshapen l → HasStopped (after_by g p l)
unfolding after_by
stops_by Opening p l e h = record { with = misshapen (length settings_widths) l h.no_settings_law.fault; stage = rw (settings_misshapen l h.no_settings_law.fault h.no_settings_law.shape) }
stops_by Running p l e h = record { with = misshapen (length row_widths) l h.no_row.fault; stage = rw (row_misshapen l p.done h.no_row.fault h.no_row.shape) }
stops_by (Stopped x) p l e h = record { with = x; stage = e }

pub misshapen_stops : (p : Progress) (l : List ℕ) → Misshapen l → HasStopped (after_line p l)
misshapen_stops p l h = stops_by p.stage p l refl h

-- one that is too long stops it as its front does, however it goes on
front_by : (g : Stage) (p : Progress) (l more : List ℕ) → line_limit ≤ length l → after_by g p (l ++ more) ≡ after_by g p l
unfolding after_by
front_by Opening p l more h = ap (opened p) (settings_front l more (omega (arith, h)))
front_by Running p l more h = ap (stepped p) (row_front l more (omega (arith, h)) p.done)
front_by (Stopped x) p l more h = refl

front_after : (p : Progress) (l more : List ℕ) → line_limit ≤ length l → after_line p (l ++ more) ≡ after_line p l
front_after p l more h = front_by p.stage p l more h

-- ---- a replay that has stopped writes its end line and nothing else

module _ (form : Form) where
  pub by_cons : (p : Progress) (l : List ℕ) (ls : List (List ℕ)) → by_lines form p (l ∷ ls) ≡ written_first (wrote_line form p l) (by_lines form (after_line p l) ls)
  unfolding by_lines
  by_cons p l ls = refl

  pub by_nil : (p : Progress) → by_lines form p [] ≡ end_alone p
  unfolding by_lines
  by_nil p = refl

  quiet : (p : Progress) (x : Refusal) (l : List ℕ) (ls : List (List ℕ)) → written_first (wrote_by (Stopped x) form p l) (by_lines form (after_by (Stopped x) p l) ls) ≡ by_lines form p ls
  unfolding wrote_by after_by
  quiet p x l ls = refl

  pub stopped_ends : (p : Progress) (x : Refusal) (ls : List (List ℕ)) → p.stage ≡ Stopped x → by_lines form p ls ≡ end_alone p
  stopped_ends p x [] e = by_nil p
  stopped_ends p x (l ∷ ls) e =
      by_cons p l ls
      ∙ ap (λ (g : Stage). written_first (wrote_by g form p l) (by_lines form (after_by g p l) ls)) e
      ∙ quiet p x l ls
      ∙ stopped_ends p x ls e

  -- ---- a line of neither shape stops the replay

  pub misshapen_ends : (p : Progress) (l : List ℕ) (ls : List (List ℕ)) → Misshapen l → by_lines form p (l ∷ ls) ≡ end_alone (after_line p l)
  misshapen_ends p l ls h =
      let stop = misshapen_stops p l h in
      by_cons p l ls
      ∙ ap (λ (w : List ℕ). written_first w (by_lines form (after_line p l) ls)) (misshapen_wrote form p l h)
      ∙ stopped_ends (after_line p l) stop.with ls stop.stage

  -- the end of the input in a line that is not closed
  pub open_ends : (p : Progress) (l : List ℕ) → 0 < length l → ends_cr_lf l ≡ false → by_lines form p (lines_from CrLf l []) ≡ end_alone (after_line p l)
  open_ends p l k h = rw (lines_nil CrLf l, last_line_law l k) (misshapen_ends p l [] (open_misshapen l h))

  -- a line that is too long is refused by its front, wherever it ends
  pub long_ends : (p : Progress) (l s : List ℕ) → line_limit ≤ length l → by_lines form p (lines_from CrLf l s) ≡ end_alone (after_line p l)
  long_ends p l [] h = rw (lines_nil CrLf l, last_line_law l (omega arith)) (misshapen_ends p l [] (long_misshapen l h))
  long_ends p l (a ∷ s) h =
      let k : line_limit ≤ length (l ++ (a ∷ [])) = rw length-append (omega arith) in
      rw (lines_cons CrLf l s a)
      (by_cond (λ (ls : List (List ℕ)). by_lines form p ls ≡ end_alone (after_line p l)) (ends_cr_lf (l ++ (a ∷ [])))
      ((l ++ (a ∷ [])) ∷ lines_from CrLf [] s) (lines_from CrLf (l ++ (a ∷ [])) s)
      (λ e. misshapen_ends p (l ++ (a ∷ [])) (lines_from CrLf [] s) (long_misshapen (l ++ (a ∷ [])) k) ∙ ap end_alone (front_after p l (a ∷ []) h))
      (λ e. long_ends p (l ++ (a ∷ [])) s k ∙ ap end_alone (front_after p l (a ∷ []) h)))
