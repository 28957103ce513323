-- A device of the code: the refusal of two relays from that of each. `refused_by_each` of `proofs/` shows that it is theirs.
use Rattle.std.specs.Prelude.{ℕ, Some, None, cond, leb, eqb}
use Rattle.grading.specs.declared.refusal.Refusal.{Refusal}
use Rattle.grading.specs.declared.refusal.Relay.TheVariants.{Upstream, Downstream}
use Rattle.grading.specs.Refusal.{refusal_of}

-- the lower number, 0 for none, and upstream's where they are one
abbrev pub lower_of : ℕ → ℕ → ℕ → Refusal
lower_of upstream downstream rest =
    cond (eqb upstream 0) (cond (eqb downstream 0) (refusal_of None rest) (refusal_of (Some Downstream) downstream))
    (cond (eqb downstream 0) (refusal_of (Some Upstream) upstream) (cond (leb upstream downstream) (refusal_of (Some Upstream) upstream) (refusal_of (Some Downstream) downstream)))
