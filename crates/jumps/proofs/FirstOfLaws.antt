-- The first of 1, 2 .. n at which a test holds: what it means, and what it is for a test that holds from a number on.
-- Assumes nothing.
use Prim.Native.Nat.{ℕ, zero, suc, ◌≤◌, ◌<◌}
use native.Mathlib.Nat.{suc-ne-zero, not-suc-le-zero, eq-or-lt_of_le, eq-zero-or-pos, le_antisymm, lt_of_not-le}
use native.Mathlib.Omega.{arith}
use mathlib.Core.Bool.{Bool, true, false, cond, false≢true}
use mathlib.Core.Logic.{⊎_elim}
use mathlib.Core.Path.{◌≡◌, refl, sym, ◌∙◌}
use borrow.Author.Tests.{leb-true, leb-false, le-leb, lt-leb}
use lib.Dec.{leb}
use Rattle.jumps.specs.Jump.{first_of, or_last}
use Rattle.jumps.specs.device.FirstTrip.{one_of}

-- t is one of 1, 2 .. n, the test holds there, and at none before
pub record FirstAt (test : ℕ → Bool) (n t : ℕ) : Type 0 where
  pub low : 0 < t
  pub high : t ≤ n
  pub holds : test t ≡ true
  pub before : (k : ℕ) → 0 < k → k < t → test k ≡ false

-- the test holds at none of 1, 2 .. n
abbrev pub Never : (ℕ → Bool) → ℕ → Type 0
Never test n = (k : ℕ) → 0 < k → k ≤ n → test k ≡ false

-- ---- what it means

-- 0: the test holds at none
none_before : (found k : ℕ) (b : Bool) → or_last found (suc k) b ≡ 0 → (found ≡ 0) × (b ≡ false)
none_before zero k true e = absurd (suc-ne-zero k e)
none_before zero k false e = (refl, refl)
none_before (suc found) k b e = absurd (suc-ne-zero found e)

pub none_means : (test : ℕ → Bool) (n : ℕ) → first_of test n ≡ 0 → Never test n
unfolding first_of
none_means test zero e k low high = absurd (omega arith)
none_means test (suc n) e k low high =
    let o = none_before (first_of test n) n (test (suc n)) e in
    ⊎_elim (λ q. rw q o.1) (λ q. none_means test n o.0 k low (omega arith)) (eq-or-lt_of_le high)

-- above 0: the first at which it holds
found_means : (test : ℕ → Bool) (n t found : ℕ) (b : Bool) → first_of test n ≡ found → test (suc n) ≡ b → (0 < found → FirstAt test n found) → 0 < t → or_last found (suc n) b ≡ t → FirstAt test (suc n) t
found_means test n t zero true ef eb earlier h e =
    rw (sym e) (record { low = omega arith; high = omega arith; holds = eb; before = λ k a l. none_means test n ef k a (omega arith) })
found_means test n t zero false ef eb earlier h e = absurd (omega arith)
found_means test n t (suc found) b ef eb earlier h e =
    let i = earlier (omega arith) in
    rw (sym e) (record { low = i.low; high = omega arith; holds = i.holds; before = i.before })

pub first_means : (test : ℕ → Bool) (n t : ℕ) → 0 < t → first_of test n ≡ t → FirstAt test n t
unfolding first_of
first_means test zero t h e = absurd (omega arith)
first_means test (suc n) t h e =
    found_means test n t (first_of test n) (test (suc n)) refl refl (λ a. first_means test n (first_of test n) a refl) h e

not_later : {test : ℕ → Bool} {n t u : ℕ} → FirstAt test n t → FirstAt test n u → t ≤ u
not_later {test} {n} {t} {u} a b =
    omega (arith, lt_of_not-le {n = suc u} {m = t} (λ h. false≢true (sym (a.before u b.low h) ∙ b.holds)))

pub first_is : (test : ℕ → Bool) (n t : ℕ) → FirstAt test n t → first_of test n ≡ t
first_is test n t f =
    ⊎_elim
    (λ e. absurd (false≢true (sym (none_means test n e t f.low f.high) ∙ f.holds)))
    (λ p. let g = first_means test n (first_of test n) p refl in le_antisymm (not_later g f) (not_later f g))
    (eq-zero-or-pos (first_of test n))

pub never_is : (test : ℕ → Bool) (n : ℕ) → Never test n → first_of test n ≡ 0
never_is test n h =
    ⊎_elim (λ e. e)
    (λ p. let g = first_means test n (first_of test n) p refl in absurd (false≢true (sym (h (first_of test n) g.low g.high) ∙ g.holds)))
    (eq-zero-or-pos (first_of test n))

-- ---- what it is

-- only the numbers above 0 matter
pub first_same : (t u : ℕ → Bool) (n : ℕ) → ((k : ℕ) → t (suc k) ≡ u (suc k)) → first_of t n ≡ first_of u n
unfolding first_of
first_same t u zero e = refl
first_same t u (suc n) e = rw (first_same t u n e, e n)

pub first_none : (t : ℕ → Bool) (n : ℕ) → ((k : ℕ) → t (suc k) ≡ false) → first_of t n ≡ 0
unfolding first_of
first_none t zero e = refl
first_none t (suc n) e = rw (first_none t n e, e n)

last_or_none : (b : Bool) (x y : ℕ) → (b ≡ true → x ≡ y) → cond b x 0 ≡ cond b y 0
last_or_none true x y f = f refl
last_or_none false x y f = refl

-- a test that holds from the number m on
pub first_from : (t : ℕ → Bool) (m n : ℕ) → 0 < m → ((k : ℕ) → t (suc k) ≡ leb m (suc k)) → first_of t n ≡ one_of n m
unfolding first_of
first_from t zero n h e = absurd (not-suc-le-zero h)
first_from t (suc m) zero h e = rw (lt-leb (suc m) 0 (omega arith))
first_from t (suc m) (suc n) h e = rw (first_from t (suc m) n h e, e n) (go (leb (suc m) n) refl)
  where
    go : (b : Bool) → leb (suc m) n ≡ b → or_last (cond b (suc m) 0) (suc n) (leb (suc m) (suc n)) ≡ one_of (suc n) (suc m)
    go true q = rw (le-leb (suc m) (suc n) (omega (arith, leb-true (suc m) n q)))
    go false q = last_or_none (leb (suc m) (suc n)) (suc n) (suc m) (λ r. omega (arith, leb-false (suc m) n q, leb-true (suc m) (suc n) r))
