-- Bytes written one after the other.
-- Assumes nothing.
use Prim.Native.Nat.{ℕ, ◌+◌, ◌≤◌}
use native.Mathlib.Omega.{arith}
use mathlib.Core.List.{List, [], ◌++◌}
use mathlib.Core.Path.{refl, sym, ◌∙◌}
use lib.ListN.{length-append}
use Rattle.text.specs.declared.page.Page.{Page}
use Rattle.text.specs.device.Page.{Put}
use Rattle.text.proofs.StoreLaws.{sets_append}

pub put_then : {room more : ℕ} {a b c : Page} {xs ys : List ℕ} → Put room a b xs → Put more b c ys → Put (room + more) a c (xs ++ ys)
put_then {a = a} {xs = xs} {ys = ys} w v = record {
  same_buffer = v.same_buffer ∙ w.same_buffer;
  as_long = v.as_long ∙ w.as_long;
  place_after = rw length-append (omega (arith, w.place_after, v.place_after));
  output = v.output ∙ rw (w.output, w.place_after) (sym (sets_append a.out.now a.at xs ys));
  short = rw length-append (omega (arith, w.short, v.short));
}

pub put_within : {room : ℕ} {a b : Page} {xs : List ℕ} (more : ℕ) → Put room a b xs → room ≤ more → Put more a b xs
put_within more w h = record {
  same_buffer = w.same_buffer;
  as_long = w.as_long;
  place_after = w.place_after;
  output = w.output;
  short = omega (arith, w.short, h);
}

pub put_nothing : (a : Page) (room : ℕ) → Put room a a []
put_nothing a room = record {
  same_buffer = refl;
  as_long = refl;
  place_after = omega arith;
  output = refl;
  short = omega arith;
}
