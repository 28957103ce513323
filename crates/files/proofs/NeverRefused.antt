-- No tick of a replay is refused: a replay that begins fresh has accepted settings and a valid state at each row.
-- Assumes nothing.
use Rattle.std.specs.Prelude.{Result, Ok, Err, Some, None}
use Rattle.rows.specs.declared.refusal.Refusal.{Refusal}
use Prim.Native.Nat.{ℕ, ◌≤◌}
use mathlib.Core.Bool.{true}
use mathlib.Core.List.{List, [], ◌∷◌}
use mathlib.Core.Path.{◌≡◌, refl, ap}
use borrow.Author.Tests.{eq-eqb}
use Rattle.phase.specs.declared.settings.Settings.{Settings}
use Rattle.phase.specs.Settings.{settings_refusal}
use Rattle.relay.specs.State.{clear_relay, valid_relay}
use Rattle.relay.specs.declared.tick.RelayTicked.{RelayTicked}
use Rattle.relay.specs.Tick.{relay_tick_refusal}
use Rattle.relay.proofs.RelayLaws.{clear_relay_is_valid, relay_tick_allowed, relay_tick_accepted, relay_tick_keeps_valid}
use Rattle.steps.specs.Configuration.{Configuration}
use Rattle.steps.specs.declared.progress.Progress.{Progress}
use Rattle.steps.specs.declared.progress.Stage.{Stage}
use Rattle.steps.specs.declared.progress.Stage.TheVariants.{Opening, Running, Stopped}
use Rattle.rows.specs.declared.row.Row.{Row}
use Rattle.steps.specs.Configuration.{after_settings}
use Rattle.steps.specs.Progress.{fresh_progress, opened, ticked, row_done, after_tick, stepped, after_by, after_line}
use Rattle.files.specs.Replay.{after_lines}
use Rattle.rows.specs.Row.{row_answer}
use Rattle.rows.specs.SettingsLine.{settings_line_answer}
use Rattle.rows.proofs.RowLaws.{accepted_row}
use Rattle.rows.proofs.SettingsLineLaws.{accepted_settings_pass}

-- ---- what every line keeps

-- before the settings line the clear state; at the rows accepted settings and a valid state
abbrev Right : Stage → Progress → Type 0
Right Opening p = p.relay ≡ clear_relay
Right Running p = (settings_refusal p.settings ≡ 0) × (valid_relay p.settings p.relay ≡ true)
Right (Stopped n) p = Unit {0}

-- a configuration changes nothing but the stage
settings_right : (c : Configuration) (p : Progress) → Right Running p → Right (after_settings c) p
settings_right None p right = right
settings_right (Some (Ok last)) p right = right
settings_right (Some (Err x)) p right = tt

opened_right : (p : Progress) (answer : Result Settings Refusal) → p.relay ≡ clear_relay → ((x : Settings) → answer ≡ Ok x → settings_refusal x ≡ 0) → Right (opened p answer).stage (opened p answer)
opened_right p (Ok x) e h =
    settings_right p.configuration (opened p (Ok x)) (h x refl, rw e (clear_relay_is_valid x))
opened_right p (Err n) e h = tt

tick_right : (p : Progress) (x : Row) → Right Running p → x.sample.block ≤ 1 → relay_tick_refusal p.settings p.relay x.sample.block ≡ 0
tick_right p x right h = relay_tick_allowed p.settings p.relay x.sample.block right.0 right.1 h

tick_is_accepted : (p : Progress) (x : Row) → Right Running p → x.sample.block ≤ 1 → (ticked p x).refusal ≡ 0
tick_is_accepted p x right h =
    ap (λ (t : RelayTicked). t.refusal) (relay_tick_accepted p.settings p.relay x.sample.l1 x.sample.l2 x.sample.l3 x.sample.block (tick_right p x right h))

-- an accepted row is done
done_right : (p : Progress) (x : Row) → Right Running p → x.sample.block ≤ 1 → after_tick p (ticked p x) ≡ row_done p (ticked p x)
done_right p x right h = rw (eq-eqb (ticked p x).refusal 0 (tick_is_accepted p x right h))

stepped_right : (p : Progress) (answer : Result Row Refusal) → Right Running p → ((x : Row) → answer ≡ Ok x → x.sample.block ≤ 1) → Right (stepped p answer).stage (stepped p answer)
stepped_right p (Ok x) right h =
    rw (done_right p x right (h x refl))
    (right.0, relay_tick_keeps_valid p.settings p.relay x.sample.l1 x.sample.l2 x.sample.l3 x.sample.block (tick_right p x right (h x refl)) right.1)
stepped_right p (Err n) right h = tt

line_keeps : (stage : Stage) (p : Progress) (l : List ℕ) → p.stage ≡ stage → Right stage p → let q : Progress = after_by stage p l in Right q.stage q
unfolding after_by
line_keeps Opening p l s right = opened_right p (settings_line_answer l) right (λ x. accepted_settings_pass l x)
line_keeps Running p l s right = stepped_right p (row_answer l p.done) right (λ x e. (accepted_row l p.done x e).block)
line_keeps (Stopped n) p l s right = rw s right

lines_keep : (p : Progress) (ls : List (List ℕ)) → Right p.stage p → Right (after_lines p ls).stage (after_lines p ls)
unfolding after_lines
lines_keep p [] right = right
lines_keep p (l ∷ ls) right = lines_keep (after_line p l) ls (line_keeps p.stage p l refl right)

-- after any lines from the fresh start, the tick of an accepted row is accepted, and the row is done
module _ (c : Configuration) (ls : List (List ℕ)) (l : List ℕ) (x : Row) where
  abbrev reached : Progress
  reached = after_lines (fresh_progress c) ls

  module _ (running : reached.stage ≡ Running) (e : row_answer l reached.done ≡ Ok x) where
    right_reached : Right Running reached
    right_reached = rw running at (lines_keep (fresh_progress c) ls refl)

    -- its settings, state and block are accepted ones
    pub row_allowed : (settings_refusal reached.settings ≡ 0) × (valid_relay reached.settings reached.relay ≡ true) × (x.sample.block ≤ 1)
    row_allowed = (right_reached.0, right_reached.1, (accepted_row l reached.done x e).block)

    pub no_tick_refused : (ticked reached x).refusal ≡ 0
    no_tick_refused = tick_is_accepted reached x right_reached (accepted_row l reached.done x e).block

    pub accepted_row_is_done : after_line reached l ≡ row_done reached (ticked reached x)
    unfolding after_by
    accepted_row_is_done = rw (running, e) (done_right reached x right_reached (accepted_row l reached.done x e).block)
