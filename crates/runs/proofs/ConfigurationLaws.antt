-- The portions of a configuration file: none at first, one more at each turn, and what the end answers.
-- Assumes nothing.
use mathlib.Core.Path.{◌≡◌, refl, ap, ◌∙◌}
use mathlib.Core.List.{List, [], ◌∷◌, ◌++◌}
use Prim.Native.Nat.{ℕ}
use Rattle.config.specs.declared.reader.Reader.{Reader}
use Rattle.config.specs.declared.reader.Fault.{Fault}
use Rattle.std.specs.Prelude.{Result}
use Rattle.config.specs.Reader.{fresh_reader, take_answer, taken_all, end_answer}
use Rattle.runs.specs.Configuration.{ReaderReached, ConfigReached}

pub reached_fresh : (r : Reader) → r ≡ fresh_reader → ReaderReached r
reached_fresh r fresh = record { portions = []; taken = fresh }

taken_then : (r : Reader) (ps : List (List ℕ)) (p : List ℕ) → take_answer (taken_all r ps) p ≡ taken_all r (ps ++ (p ∷ []))
taken_then r [] p = refl
taken_then r (q ∷ ps) p = taken_then (take_answer r q) ps p

pub reached_taken : (r after : Reader) (p : List ℕ) → ReaderReached r → after ≡ take_answer r p → ReaderReached after
reached_taken r after p h taken = record {
  portions = h.portions ++ (p ∷ []);
  taken = taken ∙ ap (λ (x : Reader). take_answer x p) h.taken ∙ taken_then fresh_reader h.portions p;
}

pub reached_end : (r : Reader) (x : Result ℕ Fault) → ReaderReached r → x ≡ end_answer r → ConfigReached x
reached_end r x h answer = record {
  portions = h.portions;
  answer = answer ∙ ap (λ (y : Reader). end_answer y) h.taken;
}
