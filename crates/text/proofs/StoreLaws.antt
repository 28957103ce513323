-- Stores in a row.
-- Assumes nothing.
use Prim.Native.Nat.{ℕ, suc, ◌+◌, ◌-◌, ◌≤◌}
use native.Mathlib.Nat.{add-zero}
use native.Mathlib.Omega.{arith}
use mathlib.Core.List.{List, [], ◌∷◌, ◌++◌, append-nil, append_assoc}
use mathlib.Core.Path.{◌≡◌, refl, sym, ◌∙◌}
use lib.ListN.{length, take, drop, set, length-drop, length-append}
use lib.Seq.{sets, sets-eq, take_all, drop-length, drop-drop}
use Rattle.text.specs.device.Calls.{Wrote, WroteWithin}
use borrow.Rule.Slice.PartMut.{mid_of, put_mid, Post-is}

-- two stores after each other
pub sets_append : (s : List ℕ) (at : ℕ) (xs ys : List ℕ) → sets s at (xs ++ ys) ≡ sets (sets s at xs) (at + length xs) ys
sets_append s at [] ys = rw add-zero
sets_append s at (x ∷ xs) ys =
    let place : suc at + length xs ≡ at + suc (length xs) = omega arith in
    sets_append (set s at x) (suc at) xs ys ∙ rw place

-- a store at the front
pub sets_front : (s xs : List ℕ) → length xs ≤ length s → sets s 0 xs ≡ xs ++ drop (length xs) s
sets_front s xs h =
    let end : 0 + length xs ≡ length xs = omega arith in
    sets-eq xs s 0 (omega arith) ∙ rw end

-- a store of the whole
pub sets_all : (s xs : List ℕ) → length xs ≡ length s → sets s 0 xs ≡ xs
sets_all s xs e =
    sets_front s xs (omega arith) ∙ rw (e, drop-length s) (append-nil xs)

-- a store of the whole of the lent part `&mut s[at..end]`, said of the whole
pub sets_part : (s : List ℕ) (at : ℕ) (xs : List ℕ) → at + length xs ≤ length s → put_mid at (at + length xs - at) s xs ≡ sets s at xs
sets_part s at xs h =
    let long : at + length xs - at ≡ length xs = omega arith in
    rw (long, drop-drop, ← append_assoc) (sym (sets-eq xs s at h))

-- a store at the front of the lent part `&mut s[at..]`, said of the whole
pub sets_free : (s : List ℕ) (at : ℕ) (xs part : List ℕ) → at + length xs ≤ length s → part ≡ sets (mid_of at (length s - at) s) 0 xs
    → put_mid at (length s - at) s part ≡ sets s at xs
sets_free s at xs part h e =
    let whole : take (length s - at) (drop at s) ≡ drop at s = take_all (length s - at) (drop at s) (simp length-drop (omega arith)) in
    let front : sets (drop at s) 0 xs ≡ xs ++ drop (length xs) (drop at s) = sets_front (drop at s) xs (simp length-drop (omega arith)) in
    rw (e, Post-is at (length s) s (omega arith), drop-length s, append-nil, whole, front, drop-drop, ← append_assoc) (sym (sets-eq xs s at h))

-- ---- bytes written one after the other

module _ {a b c : List ℕ} {at mid end : ℕ} {xs ys : List ℕ} where
  pub wrote_then : Wrote a b at mid xs → Wrote b c mid end ys → Wrote a c at end (xs ++ ys)
  wrote_then w v = record {
    place_after = rw length-append (omega (arith, w.place_after, v.place_after));
    output = v.output ∙ rw (w.output, w.place_after) (sym (sets_append a at xs ys));
  }

  pub within_then : {room more : ℕ} → WroteWithin room a b at mid xs → WroteWithin more b c mid end ys → WroteWithin (room + more) a c at end (xs ++ ys)
  within_then w v = record { wrote = wrote_then w.wrote v.wrote; short = omega (arith, w.short, v.short) }

pub wrote_within : {a b : List ℕ} {at end : ℕ} {xs : List ℕ} (room : ℕ) → Wrote a b at end xs → length xs ≤ room → WroteWithin room a b at end xs
wrote_within room w h = record { wrote = w; short = omega (arith, w.place_after, h) }

pub within_room : {room : ℕ} {a b : List ℕ} {at end : ℕ} {xs : List ℕ} (more : ℕ) → WroteWithin room a b at end xs → room ≤ more → WroteWithin more a b at end xs
within_room more w h = record { wrote = w.wrote; short = omega (arith, w.short, h) }

-- nothing written
pub wrote_nothing : (s : List ℕ) (at room : ℕ) → WroteWithin room s s at at []
wrote_nothing s at room = record { wrote = record { place_after = omega arith; output = refl }; short = omega arith }
