-- What a configuration changes in a replay: nothing where the settings line is refused; all but `end,0,` and its number where it
-- is refused itself; and where it is accepted, at most the number of the end line.
-- Assumes nothing.
use Rattle.std.specs.Prelude.{Result, Ok, Err, Some, None}
use Rattle.phase.specs.declared.settings.Settings.{Settings}
use mathlib.Core.Path.{◌≡◌, refl, sym, ap, ◌∙◌}
use mathlib.Core.Bool.{Bool, true, false, cond}
use mathlib.Core.List.{List, [], ◌∷◌, ◌++◌}
use Prim.Native.Nat.{ℕ}
use lib.Dec.{eqb}
use borrow.Author.Tests.{eq-eqb, ne_eqb}
use Rattle.relay.specs.declared.tick.RelayTicked.{RelayTicked}
use Rattle.rows.specs.declared.row.Row.{Row}
use Rattle.rows.specs.declared.refusal.Refusal.{Refusal}
use Rattle.rows.specs.Refusal.{without_place}
use Rattle.rows.specs.Row.{row_answer}
use Rattle.rows.specs.SettingsLine.{settings_in, settings_line_refusal, settings_line_answer}
use Rattle.rows.proofs.SettingsLineLaws.{settings_answer}
use Rattle.checks.proofs.Cases.{by_cond}
use Rattle.text.specs.declared.lines.Closer.TheVariants.{CrLf}
use Rattle.text.specs.Line.{numbers_of}
use Rattle.text.specs.Lines.{lines_of}
use Rattle.config.specs.declared.reader.Fault.{Fault}
use Rattle.config.specs.Config.{config_of}
use Rattle.steps.specs.Configuration.{Configuration}
use Rattle.steps.specs.declared.output.Form.{Form}
use Rattle.steps.specs.declared.output.Form.TheVariants.{Changes, Record, Explain, ExplainAll}
use Rattle.steps.specs.declared.progress.Stage.{Stage}
use Rattle.steps.specs.declared.progress.Stage.TheVariants.{Opening, Running, Stopped}
use Rattle.steps.specs.declared.progress.Progress.{Progress}
use Rattle.steps.specs.Refusals.{wrong_last_sample}
use Rattle.steps.specs.Configuration.{after_settings, last_refusal}
use Rattle.steps.specs.Output.{note_of, end_line}
use Rattle.steps.specs.Progress.{fresh_progress, stopped, opened, ticked, row_done, stepped, noted, after_by, after_line, wrote_by, wrote_line, stage_refusal, end_refusal, end_of}
use Rattle.files.specs.Replay.{written_first, by_lines, told_of, notes_and_end, replay_of, configured_replay_of, after_lines}
use Rattle.files.proofs.RefusedLaws.{stopped_ends}
use Rattle.files.proofs.ReplayLaws.{only_end, opening, kept_refusal, told_of_nothing, told_of_refused_settings}

-- ---- no settings line, or a refused one: the configuration is not looked at

pub nothing_configured : (c : List ℕ) → configured_replay_of c [] ≡ replay_of []
nothing_configured c = ap notes_and_end (told_of_nothing Changes (Some (config_of c)) ∙ sym (told_of_nothing Changes None))

pub refused_settings_configured : (c s l : List ℕ) (ls : List (List ℕ)) (n : Refusal) → lines_of CrLf s ≡ l ∷ ls → settings_line_refusal l ≡ n → (n.number ≡ 0 → ⊥)
    → configured_replay_of c s ≡ replay_of s
refused_settings_configured c s l ls n e h k =
    ap notes_and_end (told_of_refused_settings Changes (Some (config_of c)) s l ls n e h k ∙ sym (told_of_refused_settings Changes None s l ls n e h k))

-- ---- an accepted one, and a refused configuration

module _ (form : Form) (x : Fault) where
  abbrev begun : Progress
  begun = fresh_progress (Some (Err x))

  refused_alone : (l : List ℕ) (ls : List (List ℕ)) → by_lines form (opened begun (Ok (settings_in (numbers_of l)))) ls ≡ only_end (without_place x.refusal)
  unfolding stage_refusal
  refused_alone l ls = stopped_ends form (opened begun (Ok (settings_in (numbers_of l)))) (without_place x.refusal) ls refl

  told_of_refused_configuration : (s l : List ℕ) (ls : List (List ℕ)) → lines_of CrLf s ≡ l ∷ ls → (settings_line_refusal l).number ≡ 0
      → told_of form (Some (Err x)) s ≡ only_end (without_place x.refusal)
  unfolding told_of
  told_of_refused_configuration s l ls e h =
      ap (by_lines form begun) e
      ∙ opening form (Some (Err x)) l ls
      ∙ ap (λ (a : Result Settings Refusal). by_lines form (opened begun a) ls) (settings_answer l h)
      ∙ refused_alone l ls

-- "a refused file gives only `end,0,` and its number", whatever rows follow the settings line
pub refused_configuration : (c s l : List ℕ) (ls : List (List ℕ)) (x : Fault) → config_of c ≡ Err x → lines_of CrLf s ≡ l ∷ ls → (settings_line_refusal l).number ≡ 0
    → configured_replay_of c s ≡ end_line 0 x.refusal
refused_configuration c s l ls x q e h =
    ap (λ (a : Result ℕ Fault). notes_and_end (told_of Changes (Some a) s)) q ∙ ap notes_and_end (told_of_refused_configuration Changes x s l ls e h)

-- ---- an accepted configuration

-- the same progress with another configuration
abbrev under : Configuration → Progress → Progress
under c p = record {
  configuration = c;
  stage = p.stage;
  settings = p.settings;
  relay = p.relay;
  done = p.done;
  outputs = p.outputs;
}

-- a configuration under which rows run changes no line's turn
module _ (c : Configuration) (runs : after_settings c ≡ Running) where
  opened_under : (p : Progress) (answer : Result Settings Refusal) → opened (under c p) answer ≡ under c (opened (under None p) answer)
  opened_under p (Ok x) = rw runs
  opened_under p (Err n) = refl

  ticked_under : (b : Bool) (p : Progress) (t : RelayTicked)
      → cond b (row_done (under c p) t) (stopped (without_place t.refusal) (under c p)) ≡ under c (cond b (row_done (under None p) t) (stopped (without_place t.refusal) (under None p)))
  ticked_under true p t = refl
  ticked_under false p t = refl

  stepped_under : (p : Progress) (answer : Result Row Refusal) → stepped (under c p) answer ≡ under c (stepped (under None p) answer)
  stepped_under p (Ok x) = ticked_under (eqb (ticked p x).refusal 0) p (ticked p x)
  stepped_under p (Err n) = refl

  line_under : (g : Stage) (p : Progress) (l : List ℕ) → after_by g (under c p) l ≡ under c (after_by g (under None p) l)
  unfolding after_by
  line_under Opening p l = opened_under p (settings_line_answer l)
  line_under Running p l = stepped_under p (row_answer l p.done)
  line_under (Stopped n) p l = refl

module _ (form : Form) (c : Configuration) where
  note_under : (f : Form) (p : Progress) (x : Row) (t : RelayTicked) → note_of f (under c p) x t ≡ note_of f (under None p) x t
  note_under Changes p x t = refl
  note_under Record p x t = refl
  note_under (Explain row) p x t = refl
  note_under ExplainAll p x t = refl

  noted_under : (p : Progress) (answer : Result Row Refusal) → noted form (under c p) answer ≡ noted form (under None p) answer
  noted_under p (Ok x) = ap (λ (w : List ℕ). cond (eqb (ticked p x).refusal 0) w []) (note_under form p x (ticked p x))
  noted_under p (Err n) = refl

  wrote_under : (g : Stage) (p : Progress) (l : List ℕ) → wrote_by g form (under c p) l ≡ wrote_by g form (under None p) l
  unfolding wrote_by
  wrote_under Opening p l = refl
  wrote_under Running p l = noted_under p (row_answer l p.done)
  wrote_under (Stopped n) p l = refl

  -- so it changes nothing but the end line
  by_under : (runs : after_settings c ≡ Running) (p : Progress) (ls : List (List ℕ))
      → by_lines form (under c p) ls ≡ record { notes = (by_lines form (under None p) ls).notes; end = end_of (under c (after_lines (under None p) ls)); refused = end_refusal (under c (after_lines (under None p) ls)) }
  unfolding by_lines after_lines
  by_under runs p [] = refl
  by_under runs p (l ∷ ls) =
      let q = after_line (under None p) l in
      let w = wrote_line form (under None p) l in
      ap (λ (v : List ℕ). written_first v (by_lines form (after_line (under c p) l) ls)) (wrote_under p.stage p l)
      ∙ ap (λ (x : Progress). written_first w (by_lines form x ls)) (line_under c runs p.stage p l)
      ∙ ap (written_first w) (by_under runs q ls)
      ∙ ap (λ (x : Progress). record { notes = w ++ (by_lines form x ls).notes; end = end_of (under c (after_lines x ls)); refused = end_refusal (under c (after_lines x ls)) }) (sym (line_under None refl p.stage p l))

-- the rows done and the refusal, without a configuration
abbrev pub rows_done : List ℕ → ℕ
rows_done s = (after_lines (fresh_progress None) (lines_of CrLf s)).done

abbrev pub refusal_of : List ℕ → Refusal
refusal_of s = stage_refusal (after_lines (fresh_progress None) (lines_of CrLf s)).stage

-- the change lines of a recording, and an end line with a number
abbrev pub ended_with : List ℕ → ℕ → List ℕ
ended_with s n = (told_of Changes None s).notes ++ end_line (rows_done s) n

ended_under : (c : Configuration) → after_settings c ≡ Running → (s : List ℕ) → notes_and_end (told_of Changes c s) ≡ ended_with s (last_refusal c (rows_done s) (refusal_of s)).number
unfolding told_of
ended_under c runs s = ap notes_and_end (by_under Changes c runs (fresh_progress None) (lines_of CrLf s))

replay_ends : (s : List ℕ) → replay_of s ≡ ended_with s (refusal_of s).number
replay_ends s = ended_under None refl s

module _ (c s : List ℕ) (last : ℕ) (q : config_of c ≡ Ok last) where
  abbrev carried : Refusal
  carried = last_refusal (Some (Ok last)) (rows_done s) (refusal_of s)

  ended : configured_replay_of c s ≡ ended_with s carried.number
  ended = ap (λ (a : Result ℕ Fault). notes_and_end (told_of Changes (Some a) s)) q ∙ ended_under (Some (Ok last)) refl s

  as_before : carried ≡ refusal_of s → configured_replay_of c s ≡ replay_of s
  as_before e = ended ∙ ap (λ (x : Refusal). ended_with s x.number) e ∙ sym (replay_ends s)

  -- "The last sample number must equal the rows done": then the configuration changes nothing
  pub right_last_sample : last ≡ rows_done s → configured_replay_of c s ≡ replay_of s
  right_last_sample e =
      as_before
      (rw (eq-eqb last (rows_done s) e)
      (by_cond (λ (x : Refusal). x ≡ refusal_of s) (eqb (refusal_of s).number 0) (refusal_of s) (refusal_of s) (λ z. refl) (λ z. refl)))

  -- nor does it where the recording is refused
  pub refused_recording : ((refusal_of s).number ≡ 0 → ⊥) → configured_replay_of c s ≡ replay_of s
  refused_recording k = as_before (kept_refusal (Some (Ok last)) (rows_done s) (refusal_of s) k)

  -- "else an end line that would carry 0 carries 28"
  pub wrong_last_sample_law : (refusal_of s).number ≡ 0 → (last ≡ rows_done s → ⊥) → configured_replay_of c s ≡ ended_with s wrong_last_sample
  wrong_last_sample_law z k =
      let other : carried ≡ without_place wrong_last_sample = rw (eq-eqb (refusal_of s).number 0 z, ne_eqb last (rows_done s) k) in
      ended ∙ ap (λ (x : Refusal). ended_with s x.number) other
