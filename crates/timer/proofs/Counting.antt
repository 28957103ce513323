-- The count of Set delay and of the flip-flop is the number of ticks on in a row, stopped at its limit.
-- Assumes nothing.
use Prim.Native.Nat.{ℕ, zero, suc, ◌≤◌, min}
use native.Mathlib.Omega.{arith}
use mathlib.Core.Bool.{Bool, true, false, cond, ◌&&◌}
use mathlib.Core.List.{List, [], ◌∷◌}
use mathlib.Core.Path.{◌≡◌, refl, sym, ◌∙◌}
use borrow.Author.Tests.{le-leb, lt-leb}
use lib.Dec.{leb, ltb}
use Rattle.checks.proofs.Tests.{leb_iff}
use Rattle.timer.specs.Rules.{counted}
use Rattle.timer.specs.State.{count_limit, delay_limit}
use Rattle.timer.proofs.Runs.{latest_on}

-- for how many ticks the input has been on without a break, the latest tick first
unfoldable pub on_in_a_row : {I : Type 0} → (I → Bool) → List I → ℕ
on_in_a_row input [] = 0
on_in_a_row input (inputs ∷ earlier) = cond (input inputs) (suc (on_in_a_row input earlier)) 0

latest_on_is_in_a_row : {I : Type 0} (input : I → Bool) (n : ℕ) (history : List I)
    → latest_on input n history ≡ leb n (on_in_a_row input history)
unfolding latest_on on_in_a_row
latest_on_is_in_a_row input zero history = sym (le-leb 0 (on_in_a_row input history) (omega arith))
latest_on_is_in_a_row input (suc n) [] = sym (lt-leb (suc n) 0 (omega arith))
latest_on_is_in_a_row input (suc n) (inputs ∷ earlier) =
    go (input inputs) (latest_on input n earlier) (on_in_a_row input earlier) (latest_on_is_in_a_row input n earlier)
  where
    go : (on before : Bool) (row : ℕ) → before ≡ leb n row → on && before ≡ leb (suc n) (cond on (suc row) 0)
    go true before row e = e ∙ leb_iff n row (suc n) (suc row) (λ h. omega (arith, h)) (λ h. omega (arith, h))
    go false before row e = sym (lt-leb (suc n) 0 (omega arith))

pub counted_in_a_row : {I : Type 0} (input : I → Bool) (inputs : I) (earlier : List I) (count : ℕ)
    → count ≡ min (on_in_a_row input earlier) count_limit
    → counted (input inputs) count ≡ min (on_in_a_row input (inputs ∷ earlier)) count_limit
unfolding on_in_a_row
counted_in_a_row input inputs earlier count e = rw e (go (input inputs) (on_in_a_row input earlier))
  where
    go : (on : Bool) (row : ℕ) → counted on (min row count_limit) ≡ min (cond on (suc row) 0) count_limit
    go true row = omega arith
    go false row = refl

-- the limit is over every delay that is accepted, so that the stop is not seen
pub over_d_is_latest_on : {I : Type 0} (input : I → Bool) (d count : ℕ) (history : List I) → d ≤ delay_limit
    → count ≡ min (on_in_a_row input history) count_limit → ltb d count ≡ latest_on input (suc d) history
over_d_is_latest_on input d count history h e =
    let row = on_in_a_row input history in
    leb_iff (suc d) count (suc d) row (λ f. omega (arith, e, f)) (λ f. omega (arith, e, f, h))
    ∙ sym (latest_on_is_in_a_row input (suc d) history)
