-- What a cutter holds after a portion whose lines the client has taken.
-- Assumes nothing.
use mathlib.Core.Path.{◌≡◌, refl, sym, ap, ◌∙◌}
use mathlib.Core.Bool.{Bool, true, false}
use mathlib.Core.List.{List, [], ◌∷◌, ◌++◌}
use Prim.Native.Nat.{ℕ, ◌+◌, ◌≤◌, ◌<◌}
use native.Mathlib.Omega.{arith}
use lib.ListN.{length, length-append, length-take}
use lib.Seq.{length-sets}
use Rattle.text.specs.declared.lines.Closer.{Closer}
use Rattle.text.specs.declared.cutter.Cutter.{Cutter}
use Rattle.text.specs.Lines.{Cutting, one_more, cutting}
use Rattle.text.specs.Cutter.{held_room, empty_cutter, held_line, holding, held_after, cutter_after}
use Rattle.text.specs.device.Calls.{Holds}
use Rattle.text.proofs.CuttingLaws.{nothing_closed, none_closed, Open, held_open}
use Rattle.text.proofs.PieceLaws.{held_with}

-- a line that was taken does not matter for what is held
module _ (closer : Closer) (limit : ℕ) (c : Cutter) (s line rest : List ℕ) where
  taken_by : (t : Bool) (ls : List (List ℕ)) (held : List ℕ) → (t ≡ false → ls ≡ [] → held ≡ rest) → held_after t (line ∷ ls) held c s ≡ held_after t ls held empty_cutter rest
  unfolding held_after
  taken_by true ls held h = refl
  taken_by false [] held h = ap (holding empty_cutter) (h refl refl)
  taken_by false (l ∷ ls) held h = refl

  pub line_taken_law : let x : Cutting = cutting closer limit [] rest in cutter_after (one_more line x) c s ≡ cutter_after x empty_cutter rest
  line_taken_law = let x = cutting closer limit [] rest in taken_by x.too_long x.lines x.held (none_closed closer limit [] rest)

-- ---- what is held is the line that has begun

pub record Kept (held : List ℕ) (k : Cutter) : Type 0 where
  pub line : held_line k ≡ held
  pub count : k.count ≡ length held
  pub room : length k.held ≡ held_room

module _ (c : Cutter) (s : List ℕ) (room : length c.held ≡ held_room) (counted : length (held_line c) ≡ c.count) where
  kept_by : (ls : List (List ℕ)) (held : List ℕ) → (ls ≡ [] → held ≡ held_line c ++ s) → length held ≤ held_room → Kept held (held_after false ls held c s)
  unfolding held_after
  kept_by [] held all fits =
      let size : length held ≡ c.count + length s = rw (all refl, length-append) (omega (arith, counted)) in
      record {
        line = held_with c s (omega (arith, size, fits, room)) ∙ sym (all refl);
        count = sym size;
        room = length-sets c.held c.count s ∙ room;
      }
  kept_by (l ∷ ls) held all fits = record {
    line = held_with empty_cutter held (omega (arith, fits));
    count = omega arith;
    room = length-sets empty_cutter.held 0 held;
  }

-- ---- a cutter that holds an open line holds one after the portion

pub empty_holds : (closer : Closer) (limit : ℕ) → 0 < limit → Holds closer limit empty_cutter
empty_holds closer limit some = record { short = some; room = refl; unclosed = nothing_closed closer }

module _ (closer : Closer) (limit : ℕ) (fits : limit ≤ held_room) (c : Cutter) (s : List ℕ) (h : Holds closer limit c) where
  abbrev x : Cutting
  x = cutting closer limit (held_line c) s

  counted : length (held_line c) ≡ c.count
  counted = rw length-take (omega (arith, h.short, h.room, fits))

  still_open : x.too_long ≡ false → Open closer limit x.held
  still_open = held_open closer limit (held_line c) s (record { short = omega (arith, counted, h.short); unclosed = h.unclosed })

  kept : x.too_long ≡ false → Kept x.held (cutter_after x c s)
  kept e =
      rw e (kept_by c s h.room counted x.lines x.held (none_closed closer limit (held_line c) s e) (omega (arith, fits, (still_open e).short)))

  pub line_kept : x.too_long ≡ false → held_line (cutter_after x c s) ≡ x.held
  line_kept e = (kept e).line

  pub nothing_kept : x.too_long ≡ true → cutter_after x c s ≡ empty_cutter
  unfolding held_after
  nothing_kept e = rw e

  holds_by_law : (t : Bool) → x.too_long ≡ t → Holds closer limit (cutter_after x c s)
  holds_by_law true e = rw (nothing_kept e) (empty_holds closer limit (omega (arith, h.short)))
  holds_by_law false e = record {
    short = omega (arith, (kept e).count, (still_open e).short);
    room = (kept e).room;
    unclosed = rw (line_kept e) (still_open e).unclosed;
  }

  pub still_holds : Holds closer limit (cutter_after x c s)
  still_holds = holds_by_law x.too_long refl
