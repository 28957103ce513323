-- What asking why answers (02, E2).
use Rattle.std.specs.Prelude.{ℕ, Result, Ok, Err, cond, List, [], ◌∷◌, ◌++◌, leb, eqb}
use Rattle.checks.specs.Checks.{Check, check, lowest}
use Rattle.phase.specs.declared.settings.Settings.{Settings}
use Rattle.phase.specs.declared.state.PhaseState.{PhaseState}
use Rattle.phase.specs.Tick.{phase_checks}
use Rattle.why.specs.declared.reason.Reason.{Reason}
use Rattle.why.specs.Reason.{reason_of, place_of, lacking_of}
use Rattle.why.specs.Refusals.{wrong_block}

-- refused as a tick is, by 1 to 8, and then by 14
abbrev pub why_checks : Settings → PhaseState → ℕ → List Check
why_checks settings state block = phase_checks settings state ++ (check (leb block 1) wrong_block ∷ [])

unfoldable pub why_refusal : Settings → PhaseState → ℕ → ℕ
why_refusal settings state block = lowest (why_checks settings state block)

-- what the call answers: a refused one tells no reason, and none hands back a state
unfoldable pub why_answer : Settings → PhaseState → ℕ → ℕ → Result Reason ℕ
why_answer settings state g block =
    cond (eqb (why_refusal settings state block) 0)
    (Ok (reason_of settings state g block))
    (Err (why_refusal settings state block))

-- ---- the same in numbers

pub record WhyNumbers : Type 0 where
  pub refusal : ℕ
  pub place : ℕ
  pub lacking : ℕ

abbrev pub reason_numbers : Reason → WhyNumbers
reason_numbers reason = record { refusal = 0; place = place_of reason; lacking = lacking_of reason }

abbrev pub refused_numbers : ℕ → WhyNumbers
refused_numbers refusal = record { refusal = refusal; place = 0; lacking = 0 }

-- of each case of the answer
abbrev pub explained_numbers : Result Reason ℕ → WhyNumbers
explained_numbers (Ok reason) = reason_numbers reason
explained_numbers (Err refusal) = refused_numbers refusal

unfoldable pub why_numbers : Settings → PhaseState → ℕ → ℕ → WhyNumbers
why_numbers settings state g block =
    cond (eqb (why_refusal settings state block) 0)
    (reason_numbers (reason_of settings state g block))
    (refused_numbers (why_refusal settings state block))
