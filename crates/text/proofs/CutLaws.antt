-- What a byte does to the line that has begun, and the lines of a stream one byte on.
-- Assumes nothing.
use mathlib.Core.Path.{◌≡◌, refl, sym, ap, ◌∙◌}
use mathlib.Core.Bool.{true, false, cond, ◌&&◌, and-false, or-false}
use mathlib.Core.List.{List, [], ◌∷◌, ◌++◌}
use Prim.Native.Nat.{ℕ, suc, ◌+◌, ◌-◌, ◌≤◌, ◌<◌}
use native.Mathlib.Omega.{arith}
use lib.Dec.{eqb}
use lib.ListN.{length, get_or, take, length-append, length-take}
use lib.Seq.{take-suc, append_snoc, take_all}
use borrow.Author.Tests.{eq-eqb, ne_eqb, eqb-true, eqb-false}
use Rattle.std.proofs.lemmas.Bool.Decides.{nat_tests}
use Rattle.text.specs.declared.lines.Closer.{Closer}
use Rattle.text.specs.declared.lines.Cut.{Cut}
use Rattle.text.specs.declared.lines.Cut.TheVariants.{Held, Closed, TooLong}
use Rattle.text.specs.Line.{cr, lf, is_lf, ends_cr_lf}
use Rattle.text.specs.Lines.{ends_lf, closed_by, last_line, lines_from, cut_of, joined}
use Rattle.checks.proofs.Cases.{by_cond}
use Rattle.text.proofs.ShapeLaws.{ends_two}

-- ---- whether a line is closed: its last bytes tell

last_byte : (l : List ℕ) → 1 ≤ length l → take (length l - 1) l ++ (get_or l (length l - 1) 0 ∷ []) ≡ l
last_byte l h =
    let n : suc (length l - 1) ≡ length l = omega arith in
    sym (take-suc l (length l - 1) 0 (omega arith)) ∙ rw n (take_all (length l) l (omega arith))

lf_last : (l : List ℕ) (b : ℕ) → ends_lf (l ++ (b ∷ [])) ≡ eqb b lf
unfolding ends_lf is_lf
lf_last [] b = or-false (eqb b lf)
lf_last (a ∷ l) b =
    let n : length (l ++ (b ∷ [])) ≡ length l + 1 = length-append l (b ∷ []) in
    rw (ne_eqb (suc (length (l ++ (b ∷ [])))) 1 (λ e. omega arith)) (lf_last l b)

cr_lf_last : (b k : ℕ) (s : List ℕ) → k < length s → ends_cr_lf (take (suc k) s ++ (b ∷ [])) ≡ eqb (get_or s k 0) cr && eqb b lf
cr_lf_last b k s h = rw (take-suc s k 0 h, append_snoc (take k s) (get_or s k 0) (b ∷ [])) (ends_two (take k s) (get_or s k 0) b)

pub lf_at : (l : List ℕ) → 1 ≤ length l → ends_lf l ≡ eqb (get_or l (length l - 1) 0) lf
lf_at l h = ap ends_lf (sym (last_byte l h)) ∙ lf_last (take (length l - 1) l) (get_or l (length l - 1) 0)

pub lf_none : (l : List ℕ) → length l < 1 → ends_lf l ≡ false
unfolding ends_lf
lf_none [] h = refl
lf_none (a ∷ l) h = absurd (omega arith)

pub cr_lf_at : (l : List ℕ) → 2 ≤ length l → ends_cr_lf l ≡ eqb (get_or l (length l - 2) 0) cr && eqb (get_or l (length l - 1) 0) lf
cr_lf_at l h =
    let b = get_or l (length l - 1) 0 in
    let e : length l - 1 ≡ suc (length l - 2) = omega arith in
    let whole = sym (last_byte l (omega arith)) ∙ ap (λ (m : ℕ). take m l ++ (b ∷ [])) e in
    ap ends_cr_lf whole ∙ cr_lf_last b (length l - 2) l (omega arith)

pub cr_lf_none : (l : List ℕ) → length l < 2 → ends_cr_lf l ≡ false
unfolding ends_cr_lf is_lf
cr_lf_none [] h = refl
cr_lf_none (a ∷ []) h = rw (and-false (eqb a cr))
cr_lf_none (a ∷ b ∷ l) h = absurd (omega arith)

-- what the check of `closes` goes by
pub ruleset closing_laws = (nat_tests, lf_at, lf_none, cr_lf_at, cr_lf_none)

-- ---- what the cutter answers, by the line

module _ (closer : Closer) (limit : ℕ) (line : List ℕ) where
  pub by_cut : (P : Cut → Type 0) → (closed_by closer line ≡ true → P Closed) → (closed_by closer line ≡ false → length line ≡ limit → P TooLong)
      → (closed_by closer line ≡ false → (length line ≡ limit → ⊥) → P Held) → P (cut_of closer limit line)
  by_cut P f g h =
      by_cond P (closed_by closer line) Closed (cond (eqb (length line) limit) TooLong Held) f
      (λ e. by_cond P (eqb (length line) limit) TooLong Held (λ t. g e (eqb-true (length line) limit t)) (λ t. h e (eqb-false (length line) limit t)))

  pub held_not_full : cut_of closer limit line ≡ Held → length line ≡ limit → ⊥
  held_not_full =
      by_cut (λ (k : Cut). k ≡ Held → length line ≡ limit → ⊥)
      (λ e k. let z : ◌≡◌ {A = ℕ} 0 1 = cc in absurd (omega arith))
      (λ e n k. let z : ◌≡◌ {A = ℕ} 0 1 = cc in absurd (omega arith))
      (λ e n k. n)

-- by the n bytes held and the next
module _ (closer : Closer) (limit n b : ℕ) (held : List ℕ) (h : n ≤ length held) where
  abbrev next : List ℕ
  next = take n held ++ (b ∷ [])

  pub next_length : length next ≡ n + 1
  next_length = rw (length-append, length-take) (omega arith)

  pub cut_closed : closed_by closer next ≡ true → Closed ≡ cut_of closer limit next
  cut_closed e = rw e

  module _ (e : closed_by closer next ≡ false) where
    pub cut_too_long : n + 1 ≡ limit → TooLong ≡ cut_of closer limit next
    cut_too_long k = rw (e, next_length, eq-eqb (n + 1) limit k)

    pub cut_held : (n + 1 ≡ limit → ⊥) → Held ≡ cut_of closer limit next
    cut_held k = rw (e, next_length, ne_eqb (n + 1) limit k)

-- ---- the lines of a stream, one byte on

pub lines_cons : (closer : Closer) (l s : List ℕ) (b : ℕ)
    → lines_from closer l (b ∷ s)
    ≡ cond (closed_by closer (l ++ (b ∷ []))) ((l ++ (b ∷ [])) ∷ lines_from closer [] s) (lines_from closer (l ++ (b ∷ [])) s)
unfolding lines_from
lines_cons closer l s b = refl

pub lines_nil : (closer : Closer) (l : List ℕ) → lines_from closer l [] ≡ last_line l
unfolding lines_from
lines_nil closer l = refl

pub last_nothing : last_line [] ≡ []
unfolding last_line
last_nothing = refl

pub last_line_law : (l : List ℕ) → 0 < length l → last_line l ≡ l ∷ []
unfolding last_line
last_line_law [] h = absurd (omega arith)
last_line_law (a ∷ l) h = refl

-- ---- portions

pub joined_none : joined [] ≡ []
unfolding joined
joined_none = refl

pub joined_more : (p : List ℕ) (ps : List (List ℕ)) → joined (p ∷ ps) ≡ p ++ joined ps
unfolding joined
joined_more p ps = refl
