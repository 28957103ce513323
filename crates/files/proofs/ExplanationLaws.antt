-- What the explanation of a row is, of the whole input.
-- Assumes nothing.
use Rattle.std.specs.Prelude.{Result, Ok, Err, None}
use Rattle.rows.specs.declared.refusal.Refusal.{Refusal}
use Prim.Native.Nat.{ℕ, ◌+◌, ◌≤◌, ◌<◌}
use native.Mathlib.Omega.{arith}
use mathlib.Core.Bool.{Bool, true, false}
use mathlib.Core.List.{List, [], ◌∷◌, ◌++◌, append-nil}
use mathlib.Core.Path.{◌≡◌, refl, sym, ◌∙◌, ap}
use borrow.Author.Tests.{eq-eqb, leb-true, leb-false}
use lib.Dec.{leb}
use Rattle.explanations.proofs.ExplanationLaws.{explained_lines, lines_explained}
use Rattle.rows.specs.declared.row.Row.{Row}
use Rattle.rows.specs.Row.{row_answer}
use Rattle.rows.specs.SettingsLine.{settings_line_answer}
use Rattle.text.specs.declared.lines.Closer.TheVariants.{CrLf}
use Rattle.text.specs.Lines.{lines_of}
use Rattle.steps.specs.declared.output.Form.TheVariants.{Explain}
use Rattle.steps.specs.declared.progress.Stage.{Stage}
use Rattle.steps.specs.declared.progress.Stage.TheVariants.{Opening, Running, Stopped}
use Rattle.steps.specs.declared.progress.Progress.{Progress}
use Rattle.steps.specs.Progress.{fresh_progress, stepped, after_by, after_line, wrote_by, wrote_line}
use Rattle.files.specs.Replay.{Told, by_lines, told_of, explanation_of, after_lines, wrote_lines}
use Rattle.files.proofs.NeverRefused.{row_allowed, no_tick_refused, accepted_row_is_done}
use Rattle.files.proofs.PortionLaws.{by_lines_append}
use Rattle.files.proofs.QuietLaws.{opened_done, line_done, quiet_before, quiet_after}
use Rattle.files.proofs.RefusedLaws.{by_cons, by_nil}

-- the lines before some, and those
explanation_from : (row : ℕ) (s : List ℕ) (ls ms : List (List ℕ)) → lines_of CrLf s ≡ ls ++ ms
    → explanation_of row s ≡ wrote_lines (Explain row) (fresh_progress None) ls ++ (by_lines (Explain row) (after_lines (fresh_progress None) ls) ms).notes
unfolding told_of
explanation_from row s ls ms e =
    ap (λ (x : Told). x.notes) (ap (by_lines (Explain row) (fresh_progress None)) e ∙ by_lines_append (Explain row) (fresh_progress None) ls ms)

-- nothing is written where the recording does not come to the row, refused or not
pub no_explanation : (row : ℕ) (s : List ℕ) → (after_lines (fresh_progress None) (lines_of CrLf s)).done < row → explanation_of row s ≡ []
no_explanation row s h =
    let ls = lines_of CrLf s in
    explanation_from row s ls [] (sym (append-nil ls)) ∙ rw (quiet_before row (fresh_progress None) ls h, by_nil (Explain row) (after_lines (fresh_progress None) ls))

-- ---- a row that is done stands in a line

-- after the progress p: the lines before the row's, its line, those after, and the row that was read
pub record RowIn (row : ℕ) (p : Progress) (lines : List (List ℕ)) : Type 0 where
  pub before : List (List ℕ)
  pub line : List ℕ
  pub after : List (List ℕ)
  pub x : Row
  pub cut : lines ≡ before ++ (line ∷ after)
  pub running : (after_lines p before).stage ≡ Running
  pub accepted : row_answer line (after_lines p before).done ≡ Ok x
  pub asked : (after_lines p before).done + 1 ≡ row

-- a line that does a row is an accepted one
record DoesRow (stage : Stage) (p : Progress) (l : List ℕ) : Type 0 where
  running : stage ≡ Running
  x : Row
  accepted : row_answer l p.done ≡ Ok x

row_done_law : (p : Progress) (l : List ℕ) (answer : Result Row Refusal) → row_answer l p.done ≡ answer → p.done < (stepped p answer).done → DoesRow Running p l
row_done_law p l (Ok x) e h = record { running = refl; x = x; accepted = e }
row_done_law p l (Err n) e h = absurd (omega (arith, h))

line_does : (stage : Stage) (p : Progress) (l : List ℕ) → p.done < (after_by stage p l).done → DoesRow stage p l
unfolding after_by
line_does Opening p l h = absurd (omega (arith, h, opened_done p (settings_line_answer l)))
line_does Running p l h = row_done_law p l (row_answer l p.done) refl h
line_does (Stopped n) p l h = absurd (omega (arith, h))

module _ (row : ℕ) (p : Progress) (l : List ℕ) (ls : List (List ℕ)) where
  row_here : p.done < row → row ≤ (after_line p l).done → RowIn row p (l ∷ ls)
  unfolding after_lines
  row_here low high =
      let does = line_does p.stage p l (omega (arith, low, high)) in
      record {
        before = [];
        line = l;
        after = ls;
        x = does.x;
        cut = refl;
        running = does.running;
        accepted = does.accepted;
        asked = omega (arith, low, high, (line_done p.stage p l).high);
      }

  row_later : RowIn row (after_line p l) ls → RowIn row p (l ∷ ls)
  unfolding after_lines
  row_later r = record {
    before = l ∷ r.before;
    line = r.line;
    after = r.after;
    x = r.x;
    cut = ap (λ (others : List (List ℕ)). l ∷ others) r.cut;
    running = r.running;
    accepted = r.accepted;
    asked = r.asked;
  }

  row_by : (t : Bool) → leb row (after_line p l).done ≡ t → p.done < row → ((after_line p l).done < row → RowIn row (after_line p l) ls)
      → RowIn row p (l ∷ ls)
  row_by true e low later = row_here low (leb-true row (after_line p l).done e)
  row_by false e low later = row_later (later (leb-false row (after_line p l).done e))

row_found : (row : ℕ) (p : Progress) (ls : List (List ℕ)) → p.done < row → row ≤ (after_lines p ls).done → RowIn row p ls
unfolding after_lines
row_found row p [] low high = absurd (omega (arith, low, high))
row_found row p (l ∷ ls) low high =
    row_by row p l ls (leb row (after_line p l).done) refl low (λ k. row_found row (after_line p l) ls k high)

-- the line of the asked row, after the lines before it
module _ (row : ℕ) (ls : List (List ℕ)) (l : List ℕ) (x : Row) where
  abbrev before : Progress
  before = after_lines (fresh_progress None) ls

  module _ (running : before.stage ≡ Running) (e : row_answer l before.done ≡ Ok x) (asked : before.done + 1 ≡ row) where
    row_writes : wrote_line (Explain row) before l ≡ explained_lines before.settings before.relay x.sample
    unfolding wrote_by
    row_writes =
        let (accepted, is_valid, bit) = row_allowed None ls l x running e in
        rw (running, e, eq-eqb _ 0 (no_tick_refused None ls l x running e), eq-eqb (before.done + 1) row asked)
        (lines_explained before.settings before.relay x.sample accepted is_valid bit)

    done_after : (after_line before l).done ≡ row
    done_after = ap (λ (p : Progress). p.done) (accepted_row_is_done None ls l x running e) ∙ asked

    -- WHAT `explain ROW` WRITES: the reason of each phase in the row's tick, from the state that the rows before it left, and
    -- nothing else, whatever follows
    pub explanation_of_row : (s : List ℕ) (ms : List (List ℕ)) → lines_of CrLf s ≡ ls ++ (l ∷ ms)
        → explanation_of row s ≡ explained_lines before.settings before.relay x.sample
    explanation_of_row s ms cut =
        explanation_from row s ls (l ∷ ms) cut
        ∙ rw (quiet_before row (fresh_progress None) ls (omega (arith, asked)), by_cons (Explain row) before l ms, row_writes)
        (rw (quiet_after row (after_line before l) ms (omega (arith, done_after))) (append-nil _))

-- so every row done is explained: where the recording comes to it, its line was found and this is written of it
pub record RowExplained (row : ℕ) (s : List ℕ) : Type 0 where
  pub found : RowIn row (fresh_progress None) (lines_of CrLf s)
  pub written :
      let before : Progress = after_lines (fresh_progress None) found.before in
      let x : Row = found.x in
      explanation_of row s ≡ explained_lines before.settings before.relay x.sample

pub every_row_explained : (row : ℕ) (s : List ℕ) → 0 < row → row ≤ (after_lines (fresh_progress None) (lines_of CrLf s)).done → RowExplained row s
every_row_explained row s some high =
    let r = row_found row (fresh_progress None) (lines_of CrLf s) some high in
    record { found = r; written = explanation_of_row row r.before r.line r.x r.running r.accepted r.asked s r.after r.cut }
