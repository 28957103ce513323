-- What a call on two relays is refused with (02, E9): "Refused in this order: settings, by the lowest of 1 to 7; then each by its own
-- number operations 0 and 1 or start only on, another ratio, a list without room for 1,900 entries. The first two name the relay,
-- upstream where both fit."
use Rattle.std.specs.Prelude.{ℕ, Option, Some, None, cond, ◌&&◌, List, [], ◌∷◌, ◌++◌, leb, eqb}
use Rattle.checks.specs.Checks.{Check, check}
use Rattle.phase.specs.declared.settings.Settings.{Settings}
use Rattle.phase.specs.Settings.{settings_checks}
use Rattle.grading.specs.declared.refusal.Refusal.{Refusal}
use Rattle.grading.specs.declared.refusal.Relay.{Relay}
use Rattle.grading.specs.declared.refusal.Relay.TheVariants.{Upstream, Downstream}
use Rattle.grading.specs.Refusals.{not_graded}

-- a check of a relay
pub record RelayCheck : Type 0 where
  pub relay : Relay
  pub asked : Check

abbrev pub check_of : Relay → Check → RelayCheck
check_of relay asked = record { relay = relay; asked = asked }

abbrev pub refusal_of : Option Relay → ℕ → Refusal
refusal_of relay number = record { number = number; relay = relay }

-- the first check that is not passed, with the relay that it is of, else `rest`
abbrev pub first_refusal : List RelayCheck → Refusal → Refusal
first_refusal [] rest = rest
first_refusal (c ∷ checks) rest = cond c.asked.passes (first_refusal checks rest) (refusal_of (Some c.relay) c.asked.number)

-- what one relay is asked: 1 to 7, then 34
abbrev pub graded_checks : Settings → List Check
graded_checks settings = settings_checks settings ++ (check (leb 2 settings.operation && eqb settings.start_only 0) not_graded ∷ [])

-- one check of each in turn, "upstream where both fit"
abbrev pub in_turn : List Check → List Check → List RelayCheck
in_turn [] downstream = []
in_turn (u ∷ upstream) [] = []
in_turn (u ∷ upstream) (d ∷ downstream) = check_of Upstream u ∷ check_of Downstream d ∷ in_turn upstream downstream

-- what two relays are refused with, else a number that names neither
unfoldable pub pair_refusal : Settings → Settings → ℕ → Refusal
pair_refusal upstream downstream rest =
    first_refusal (in_turn (graded_checks upstream) (graded_checks downstream)) (refusal_of None rest)
