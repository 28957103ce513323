-- The lines of a tick that is accepted: each has its reason.
-- Assumes nothing.
use Prim.Native.Nat.{ℕ, ◌≤◌}
use mathlib.Core.Bool.{true}
use mathlib.Core.List.{List, ◌++◌}
use mathlib.Core.Path.{◌≡◌}
use Rattle.phase.specs.declared.settings.Settings.{Settings}
use Rattle.phase.specs.declared.state.PhaseState.{PhaseState}
use Rattle.phase.specs.Settings.{settings_refusal, trip_level}
use Rattle.phase.specs.State.{valid}
use Rattle.phase.specs.Tick.{next_state}
use Rattle.phase.proofs.Accepted.{tick_accepted}
use Rattle.relay.specs.declared.sample.Sample.{Sample}
use Rattle.relay.specs.declared.state.RelayState.{RelayState}
use Rattle.relay.specs.State.{phase_of, valid_relay}
use Rattle.relay.proofs.RelayLaws.{each_valid}
use Rattle.text.specs.Words.{bytes_of}
use Rattle.why.specs.Reason.{reason_of}
use Rattle.why.proofs.AnswerLaws.{why_allowed, why_tick_accepted, why_accepted}
use Rattle.explanations.specs.Explanation.{reason_text, numbers_text, phase_line, explanation}

-- the name, the reason, and the numbers after the tick
abbrev pub reason_line : List ℕ → Settings → PhaseState → ℕ → ℕ → List ℕ
reason_line name settings state g block =
    name ++ reason_text (reason_of settings state g block) ++ numbers_text g (next_state settings state g) (trip_level settings)

phase_explained : (name : List ℕ) (settings : Settings) (state : PhaseState) (g block : ℕ)
    → settings_refusal settings ≡ 0 → valid settings state ≡ true → block ≤ 1
    → phase_line name settings state g block ≡ reason_line name settings state g block
phase_explained name settings state g block e v b =
    let accepted = why_allowed settings state block e v b in
    rw (why_accepted settings state g block accepted, tick_accepted settings state g (why_tick_accepted settings state block accepted))

abbrev pub explained_lines : Settings → RelayState → Sample → List ℕ
explained_lines settings relay x =
    reason_line (bytes_of "L1: ") settings (phase_of relay 0) x.l1 x.block
    ++ reason_line (bytes_of "L2: ") settings (phase_of relay 1) x.l2 x.block
    ++ reason_line (bytes_of "L3: ") settings (phase_of relay 2) x.l3 x.block

pub lines_explained : (settings : Settings) (relay : RelayState) (x : Sample)
    → settings_refusal settings ≡ 0 → valid_relay settings relay ≡ true → x.block ≤ 1
    → explanation settings relay x ≡ explained_lines settings relay x
unfolding explanation
lines_explained settings relay x e v b =
    let each = each_valid settings relay v in
    let first = phase_explained (bytes_of "L1: ") settings (phase_of relay 0) x.l1 x.block e each.l1 b in
    let second = phase_explained (bytes_of "L2: ") settings (phase_of relay 1) x.l2 x.block e each.l2 b in
    let third = phase_explained (bytes_of "L3: ") settings (phase_of relay 2) x.l3 x.block e each.l3 b in
    rw (first, second, third)
