-- What some inputs give, whole; and the ends of replay and record.
-- Assumes nothing.
use Rattle.std.specs.Prelude.{Result, Ok, Err, Some, None}
use Rattle.phase.specs.declared.settings.Settings.{Settings}
use mathlib.Core.Path.{◌≡◌, refl, sym, ap, ◌∙◌}
use mathlib.Core.Bool.{false}
use mathlib.Core.List.{List, [], ◌∷◌, append-nil}
use Prim.Native.Nat.{ℕ, ◌<◌}
use native.Mathlib.Omega.{arith}
use lib.ListN.{length}
use borrow.Author.Tests.{ne_eqb}
use Rattle.steps.specs.Configuration.{Configuration}
use Rattle.steps.specs.declared.output.Form.{Form}
use Rattle.steps.specs.declared.output.Form.TheVariants.{Changes, Record}
use Rattle.steps.specs.declared.progress.Progress.{Progress}
use Rattle.text.specs.Line.{numbers_of}
use Rattle.rows.specs.SettingsLine.{settings_in, settings_line_refusal, settings_line_answer}
use Rattle.rows.specs.Widths.{settings_widths}
use Rattle.steps.specs.Configuration.{last_refusal}
use Rattle.steps.specs.Output.{end_line}
use Rattle.text.specs.declared.lines.Closer.TheVariants.{CrLf}
use Rattle.text.specs.Lines.{lines_of}
use Rattle.rows.specs.declared.refusal.Refusal.{Refusal}
use Rattle.rows.specs.Refusals.{no_digit}
use Rattle.rows.specs.Refusal.{misshapen, accepted}
use Rattle.steps.specs.Progress.{fresh_progress, stopped, opened, after_by, after_line, wrote_by, stage_refusal}
use Rattle.files.specs.Replay.{Told, end_alone, by_lines, told_of, notes_and_end, replay_of, record_of}
use Rattle.rows.proofs.SettingsLineLaws.{settings_empty, settings_by, settings_refused, settings_answer, settings_line_passed}
use Rattle.rows.proofs.AnswerNumbers.{flaw_refused}
use Rattle.files.proofs.RefusedLaws.{open_misshapen, stopped_ends}
use Rattle.text.proofs.CutLaws.{lines_nil, last_nothing, last_line_law}
use Rattle.text.proofs.LinesLaws.{has_cr_lf, has_ends, open_input, line_first}

-- the end line alone, in any form: `end,0,` and the number of a refusal
abbrev pub only_end : Refusal → Told
only_end x = record { notes = []; end = end_line 0 x.number; refused = x }

-- such an input's replay is the end line, and its record is empty
pub replay_of_end : (s : List ℕ) (x : Refusal) → told_of Changes None s ≡ only_end x → replay_of s ≡ end_line 0 x.number
replay_of_end s x e = ap notes_and_end e

pub record_of_end : (s : List ℕ) (x : Refusal) → told_of Record None s ≡ only_end x → record_of s ≡ []
record_of_end s x e = ap (λ (x : Told). x.notes) e

-- the record's end line is the replay's: the form decides what rows write, and nothing else
same_end : (p : Progress) (ls : List (List ℕ)) → (by_lines Record p ls).end ≡ (by_lines Changes p ls).end
unfolding by_lines
same_end p [] = refl
same_end p (l ∷ ls) = same_end (after_line p l) ls

pub record_ends_as_replay : (s : List ℕ) → (told_of Record None s).end ≡ (told_of Changes None s).end
unfolding told_of
record_ends_as_replay s = same_end (fresh_progress None) (lines_of CrLf s)

lines_one : (l : List ℕ) → (settings_line_refusal l).number ≡ 0 → lines_of CrLf l ≡ l ∷ []
lines_one l e =
    ap (lines_of CrLf) (sym (append-nil l)) ∙ line_first settings_widths l [] (settings_line_passed l e).0 ∙ rw (lines_nil CrLf [], last_nothing)

-- a configuration leaves every other refusal as it is
pub kept_refusal : (c : Configuration) (done : ℕ) (x : Refusal) → (x.number ≡ 0 → ⊥) → last_refusal c done x ≡ x
kept_refusal None done x k = refl
kept_refusal (Some (Ok last)) done x k = rw (ne_eqb x.number 0 k)
kept_refusal (Some (Err y)) done x k = refl

module _ (form : Form) (c : Configuration) where
  -- "an empty input is one with no digit", at byte 0 of field 1
  pub told_of_nothing : told_of form c [] ≡ only_end (record { number = no_digit; place = Some (record { offset = 0; field = 1 }); hint = None })
  unfolding told_of by_lines stage_refusal
  told_of_nothing =
      rw (lines_nil CrLf [], last_nothing, settings_empty)
      (ap only_end (kept_refusal c 0 (record { number = no_digit; place = Some (record { offset = 0; field = 1 }); hint = None }) (λ e. omega arith)))

  -- the first line is the settings line
  pub opening : (l : List ℕ) (ls : List (List ℕ)) → by_lines form (fresh_progress c) (l ∷ ls) ≡ by_lines form (opened (fresh_progress c) (settings_line_answer l)) ls
  unfolding by_lines after_by wrote_by
  opening l ls = refl

  stopped_end : (x : Refusal) → (x.number ≡ 0 → ⊥) → end_alone (stopped x (fresh_progress c)) ≡ only_end x
  unfolding stage_refusal
  stopped_end x k = ap only_end (kept_refusal c 0 x k)

  refused_opening : (l : List ℕ) (ls : List (List ℕ)) (x : Refusal) → settings_line_refusal l ≡ x → (x.number ≡ 0 → ⊥) → by_lines form (fresh_progress c) (l ∷ ls) ≡ only_end x
  refused_opening l ls x e k =
      opening l ls
      ∙ ap (λ (a : Result Settings Refusal). by_lines form (opened (fresh_progress c) a) ls) (sym (settings_refused l x e k))
      ∙ stopped_ends form (stopped x (fresh_progress c)) x ls refl
      ∙ stopped_end x k

  -- "A refused settings line .. gives only `end,0,` and the number", whatever follows
  pub told_of_refused_settings : (s l : List ℕ) (ls : List (List ℕ)) (x : Refusal) → lines_of CrLf s ≡ l ∷ ls → settings_line_refusal l ≡ x → (x.number ≡ 0 → ⊥)
      → told_of form c s ≡ only_end x
  unfolding told_of
  told_of_refused_settings s l ls x e h k = ap (by_lines form (fresh_progress c)) e ∙ refused_opening l ls x h k

  -- an input without CR LF, such as a settings line that is not closed: the fault of that line
  pub told_of_open_line : (s : List ℕ) → 0 < length s → has_cr_lf s ≡ false → told_of form c s ≡ only_end (settings_line_refusal s)
  told_of_open_line s h k =
      let wrong = (open_misshapen s (has_ends s k)).no_settings_law in
      let refusal = settings_by s (Some wrong.fault) wrong.shape in
      told_of_refused_settings s s [] (misshapen (length settings_widths) s wrong.fault) (open_input s k ∙ last_line_law s h) refusal (flaw_refused wrong.fault.flaw)
      ∙ ap only_end (sym refusal)

module _ (form : Form) where
  end_running : (l : List ℕ) → by_lines form (opened (fresh_progress None) (Ok (settings_in (numbers_of l)))) [] ≡ only_end accepted
  unfolding by_lines stage_refusal
  end_running l = refl

  -- an accepted settings line alone
  pub told_of_settings_alone : (l : List ℕ) → (settings_line_refusal l).number ≡ 0 → told_of form None l ≡ only_end accepted
  unfolding told_of
  told_of_settings_alone l e =
      ap (by_lines form (fresh_progress None)) (lines_one l e)
      ∙ opening form None l []
      ∙ ap (λ (a : Result Settings Refusal). by_lines form (opened (fresh_progress None) a) []) (settings_answer l e)
      ∙ end_running l
