-- A line does one row at most; and in an explanation every row is quiet but the asked one: the lines before it and after it
-- write nothing.
-- Assumes nothing.
use Rattle.std.specs.Prelude.{Result, Ok, Err}
use Rattle.rows.specs.declared.refusal.Refusal.{Refusal}
use Rattle.phase.specs.declared.settings.Settings.{Settings}
use Prim.Native.Nat.{ℕ, ◌+◌, ◌≤◌, ◌<◌}
use native.Mathlib.Omega.{arith}
use mathlib.Core.Bool.{Bool, true, false, cond}
use mathlib.Core.List.{List, [], ◌∷◌}
use mathlib.Core.Path.{◌≡◌, refl}
use borrow.Author.Tests.{ne_eqb}
use lib.Dec.{eqb}
use Rattle.relay.specs.declared.tick.RelayTicked.{RelayTicked}
use Rattle.rows.specs.declared.row.Row.{Row}
use Rattle.rows.specs.Refusal.{without_place}
use Rattle.rows.specs.Row.{row_answer}
use Rattle.rows.specs.SettingsLine.{settings_line_answer}
use Rattle.steps.specs.declared.output.Form.TheVariants.{Explain}
use Rattle.steps.specs.declared.progress.Stage.{Stage}
use Rattle.steps.specs.declared.progress.Stage.TheVariants.{Opening, Running, Stopped}
use Rattle.steps.specs.declared.progress.Progress.{Progress}
use Rattle.steps.specs.Output.{explained_of}
use Rattle.steps.specs.Progress.{stopped, opened, ticked, row_done, stepped, noted, after_by, after_line, wrote_by}
use Rattle.files.specs.Replay.{by_lines, after_lines, wrote_lines}

-- ---- rows done: a line does one row at most, and they never fall

pub record OneMore (before after : ℕ) : Type 0 where
  pub low : before ≤ after
  pub high : after ≤ before + 1

-- a settings line does none
pub opened_done : (p : Progress) (answer : Result Settings Refusal) → (opened p answer).done ≡ p.done
opened_done p (Ok x) = refl
opened_done p (Err x) = refl

done_if : (b : Bool) (p : Progress) (t : RelayTicked) → OneMore p.done (cond b (row_done p t) (stopped (without_place t.refusal) p)).done
done_if true p t = record { low = omega arith; high = omega arith }
done_if false p t = record { low = omega arith; high = omega arith }

stepped_done : (p : Progress) (answer : Result Row Refusal) → OneMore p.done (stepped p answer).done
stepped_done p (Ok x) = done_if (eqb (ticked p x).refusal 0) p (ticked p x)
stepped_done p (Err x) = record { low = omega arith; high = omega arith }

pub line_done : (g : Stage) (p : Progress) (l : List ℕ) → OneMore p.done (after_by g p l).done
unfolding after_by
line_done Opening p l = rw (opened_done p (settings_line_answer l)) (record { low = omega arith; high = omega arith })
line_done Running p l = stepped_done p (row_answer l p.done)
line_done (Stopped x) p l = record { low = omega arith; high = omega arith }

pub lines_done : (p : Progress) (ls : List (List ℕ)) → p.done ≤ (after_lines p ls).done
unfolding after_lines
lines_done p [] = omega arith
lines_done p (l ∷ ls) = omega (arith, (line_done p.stage p l).low, lines_done (after_line p l) ls)

-- ---- a line that does not bring the rows done from below the asked row to it

module _ (row : ℕ) where
  quiet_if : (b : Bool) (p : Progress) (x : Row) (t : RelayTicked)
      → (p.done < row → (cond b (row_done p t) (stopped (without_place t.refusal) p)).done < row) → cond b (explained_of row p x) [] ≡ []
  quiet_if true p x t h = rw (ne_eqb (p.done + 1) row (λ e. omega (arith, e, h (omega (arith, e)))))
  quiet_if false p x t h = refl

  quiet_row : (p : Progress) (answer : Result Row Refusal) → (p.done < row → (stepped p answer).done < row) → noted (Explain row) p answer ≡ []
  quiet_row p (Ok x) h = quiet_if (eqb (ticked p x).refusal 0) p x (ticked p x) h
  quiet_row p (Err y) h = refl

  quiet_line : (g : Stage) (p : Progress) (l : List ℕ) → (p.done < row → (after_by g p l).done < row) → wrote_by g (Explain row) p l ≡ []
  unfolding after_by wrote_by
  quiet_line Opening p l h = refl
  quiet_line Running p l h = quiet_row p (row_answer l p.done) h
  quiet_line (Stopped x) p l h = refl

  -- as long as it is not done
  pub quiet_before : (p : Progress) (ls : List (List ℕ)) → (after_lines p ls).done < row → wrote_lines (Explain row) p ls ≡ []
  unfolding after_lines wrote_lines
  quiet_before p [] h = refl
  quiet_before p (l ∷ ls) h =
      let here = quiet_line p.stage p l (λ k. omega (arith, h, lines_done (after_line p l) ls)) in
      rw (here, quiet_before (after_line p l) ls h)

  -- and once it is
  pub quiet_after : (p : Progress) (ls : List (List ℕ)) → row ≤ p.done → (by_lines (Explain row) p ls).notes ≡ []
  unfolding by_lines
  quiet_after p [] h = refl
  quiet_after p (l ∷ ls) h =
      let here = quiet_line p.stage p l (λ k. absurd (omega (arith, h, k))) in
      rw (here, quiet_after (after_line p l) ls (omega (arith, h, (line_done p.stage p l).low)))
