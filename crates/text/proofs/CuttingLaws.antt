-- The cutter over a stream: the lines that it closes are those of the whole, for any cutting of the stream into portions, and of
-- a line that is too long it has seen the first bytes, as many as its limit.
-- Assumes nothing.
use mathlib.Core.Path.{◌≡◌, refl, sym, ap, ◌∙◌}
use mathlib.Core.Bool.{Bool, true, false, cond, false≢true}
use mathlib.Core.List.{List, [], ◌∷◌, ◌++◌, append-nil, append_assoc}
use Prim.Native.Nat.{ℕ, ◌+◌, ◌<◌}
use native.Mathlib.Omega.{arith}
use lib.ListN.{length, take, length-append}
use lib.Seq.{take-length, take-take, take-append_seam, append_snoc}
use Rattle.text.specs.declared.lines.Closer.{Closer}
use Rattle.text.specs.declared.lines.Closer.TheVariants.{CrLf, Lf}
use Rattle.text.specs.declared.lines.Cut.{Cut}
use Rattle.text.specs.Lines.{ends_lf, closed_by, last_line, lines_from, lines_of, Cutting, one_more, cutting_by, cut_so_far, cutting, joined}
use Rattle.checks.proofs.Cases.{by_cond}
use Rattle.text.proofs.ShapeLaws.{ends_nothing}
use Rattle.text.proofs.CutLaws.{by_cut, lines_cons, lines_nil, last_line_law, joined_none, joined_more}

pub nothing_closed : (closer : Closer) → closed_by closer [] ≡ false
unfolding ends_lf
nothing_closed CrLf = ends_nothing
nothing_closed Lf = refl

not_nothing : {l : List ℕ} {ls : List (List ℕ)} → ◌≡◌ {A = List (List ℕ)} (l ∷ ls) [] → ⊥
not_nothing e = let z : ◌≡◌ {A = ℕ} 1 0 = cc in omega arith

module _ (closer : Closer) (limit : ℕ) where
  -- ---- the lines of the whole

  -- with what comes after it, too
  pub cut_lines : (line s t : List ℕ) → let c : Cutting = cutting closer limit line s in lines_from closer line (s ++ t) ≡ c.lines ++ lines_from closer c.held (c.unread ++ t)
  unfolding cutting
  cut_lines line [] t = refl
  cut_lines line (b ∷ s) t =
      let next = line ++ (b ∷ []) in
      lines_cons closer line (s ++ t) b
      ∙ by_cut closer limit next
      (λ (k : Cut).
      let c : Cutting = cutting_by k next s (cutting closer limit next s) (cutting closer limit [] s) in
      cond (closed_by closer next) (next ∷ lines_from closer [] (s ++ t)) (lines_from closer next (s ++ t)) ≡ c.lines ++ lines_from closer c.held (c.unread ++ t))
      (λ e. rw e (ap (λ (ls : List (List ℕ)). next ∷ ls) (cut_lines [] s t)))
      (λ e n. rw e)
      (λ e n. rw e (cut_lines next s t))

  -- where no line was too long, nothing is left unread; where one was, it has as many bytes as the limit
  by_end : (Ended : Cutting → Type 0) (line s : List ℕ)
      → ((l : List ℕ) → Ended (cut_so_far l))
      → ((l u : List ℕ) → length l ≡ limit → Ended (record { lines = []; held = l; too_long = true; unread = u }))
      → ((l : List ℕ) (c : Cutting) → Ended c → Ended (one_more l c))
      → Ended (cutting closer limit line s)
  unfolding cutting
  by_end Ended line [] open_end long_end more = open_end line
  by_end Ended line (b ∷ s) open_end long_end more =
      let next = line ++ (b ∷ []) in
      by_cut closer limit next (λ (k : Cut). Ended (cutting_by k next s (cutting closer limit next s) (cutting closer limit [] s)))
      (λ e. more next _ (by_end Ended [] s open_end long_end more))
      (λ e n. long_end next s n)
      (λ e n. by_end Ended next s open_end long_end more)

  pub all_read : (line s : List ℕ) → (cutting closer limit line s).too_long ≡ false → (cutting closer limit line s).unread ≡ []
  all_read line s =
      by_end (λ (c : Cutting). c.too_long ≡ false → c.unread ≡ []) line s
      (λ l e. refl) (λ l u n e. absurd (false≢true (sym e))) (λ l c h. h)

  pub long_held : (line s : List ℕ) → (cutting closer limit line s).too_long ≡ true → length (cutting closer limit line s).held ≡ limit
  long_held line s =
      by_end (λ (c : Cutting). c.too_long ≡ true → length c.held ≡ limit) line s
      (λ l e. absurd (false≢true e)) (λ l u n e. n) (λ l c h. h)

  -- where no line was closed, and none too long, all of it is held
  pub none_closed : (line s : List ℕ) → (cutting closer limit line s).too_long ≡ false → (cutting closer limit line s).lines ≡ [] → (cutting closer limit line s).held ≡ line ++ s
  unfolding cutting
  none_closed line [] e f = sym (append-nil line)
  none_closed line (b ∷ s) e f =
      let next = line ++ (b ∷ []) in
      by_cut closer limit next
      (λ (k : Cut).
      let c : Cutting = cutting_by k next s (cutting closer limit next s) (cutting closer limit [] s) in
      c.too_long ≡ false → c.lines ≡ [] → c.held ≡ line ++ (b ∷ s))
      (λ t e f. absurd (not_nothing f))
      (λ t n e f. absurd (false≢true (sym e)))
      (λ t n e f. none_closed next s e f ∙ append_snoc line b s)
      e f

  -- what is held is no line, and shorter than the limit
  pub record Open (line : List ℕ) : Type 0 where
    pub short : length line < limit
    pub unclosed : closed_by closer line ≡ false

  pub held_open : (line s : List ℕ) → Open line → (cutting closer limit line s).too_long ≡ false → Open (cutting closer limit line s).held
  unfolding cutting
  held_open line [] h e = h
  held_open line (b ∷ s) h e =
      let next = line ++ (b ∷ []) in
      let n : length next ≡ length line + 1 = length-append line (b ∷ []) in
      by_cut closer limit next
      (λ (k : Cut).
      let c : Cutting = cutting_by k next s (cutting closer limit next s) (cutting closer limit [] s) in
      c.too_long ≡ false → Open c.held)
      (λ t e. held_open [] s (record { short = omega (arith, h.short); unclosed = nothing_closed closer }) e)
      (λ t f e. absurd (false≢true (sym e)))
      (λ t f e. held_open next s (record { short = omega (arith, h.short, n, f); unclosed = t }) e)
      e

  -- ---- portions

  -- a cutting that goes on with a portion
  abbrev more_by : Bool → Cutting → List ℕ → Cutting → Cutting
  more_by true c p d = record { lines = c.lines; held = c.held; too_long = true; unread = c.unread ++ p }
  more_by false c p d = record { lines = c.lines ++ d.lines; held = d.held; too_long = d.too_long; unread = d.unread }

  abbrev pub gone_on : Cutting → List ℕ → Cutting
  gone_on c p = more_by c.too_long c p (cutting closer limit c.held p)

  -- and so portion by portion
  unfoldable pub by_portions : Cutting → List (List ℕ) → Cutting
  by_portions c [] = c
  by_portions c (p ∷ ps) = by_portions (gone_on c p) ps

  one_more_goes_on : (t : Bool) (l : List ℕ) (c : Cutting) (p : List ℕ) (d : Cutting) → one_more l (more_by t c p d) ≡ more_by t (one_more l c) p d
  one_more_goes_on true l c p d = refl
  one_more_goes_on false l c p d = refl

  -- a stream in two parts is the first, gone on with the second
  goes_on_law : (line s p : List ℕ) → cutting closer limit line (s ++ p) ≡ gone_on (cutting closer limit line s) p
  unfolding cutting
  goes_on_law line [] p = refl
  goes_on_law line (b ∷ s) p =
      let next = line ++ (b ∷ []) in
      by_cut closer limit next
      (λ (k : Cut). cutting_by k next (s ++ p) (cutting closer limit next (s ++ p)) (cutting closer limit [] (s ++ p)) ≡ gone_on (cutting_by k next s (cutting closer limit next s) (cutting closer limit [] s)) p)
      (λ e.
      let c = cutting closer limit [] s in
      ap (one_more next) (goes_on_law [] s p) ∙ one_more_goes_on c.too_long next c p (cutting closer limit c.held p))
      (λ e n. refl)
      (λ e n. goes_on_law next s p)

  portions_go_on : (s : List ℕ) (ps : List (List ℕ)) → by_portions (cutting closer limit [] s) ps ≡ cutting closer limit [] (s ++ joined ps)
  unfolding by_portions
  portions_go_on s [] = rw (joined_none, append-nil s)
  portions_go_on s (p ∷ ps) = rw (joined_more p ps, ← append_assoc s p (joined ps), ← goes_on_law [] s p) (portions_go_on (s ++ p) ps)

  -- ---- what a client relies on

  unfoldable pub first_line : List (List ℕ) → List ℕ
  first_line [] = []
  first_line (l ∷ ls) = l

  -- what was held is what the next line begins with
  first_begins : (l s : List ℕ) → 0 < length l → take (length l) (first_line (lines_from closer l s)) ≡ l
  unfolding first_line
  first_begins l [] h = rw (lines_nil closer l, last_line_law l h) (take-length l)
  first_begins l (b ∷ s) h =
      let n : length (l ++ (b ∷ [])) ≡ length l + 1 = length-append l (b ∷ []) in
      rw (lines_cons closer l s b)
      (by_cond (λ (ls : List (List ℕ)). take (length l) (first_line ls) ≡ l) (closed_by closer (l ++ (b ∷ []))) ((l ++ (b ∷ [])) ∷ lines_from closer [] s) (lines_from closer (l ++ (b ∷ [])) s)
      (λ e. take-append_seam l (b ∷ []))
      (λ e.
      sym (take-take (length l) (length (l ++ (b ∷ []))) (first_line (lines_from closer (l ++ (b ∷ [])) s)) (omega arith))
      ∙ ap (take (length l)) (first_begins (l ++ (b ∷ [])) s (omega arith))
      ∙ take-append_seam l (b ∷ [])))

  -- a cutting of a stream: its lines, and what is held, are the stream's lines; and of a line too long it has seen the first bytes
  pub record CutsAll (s : List ℕ) (c : Cutting) : Type 0 where
    pub whole : c.too_long ≡ false → lines_of closer s ≡ c.lines ++ last_line c.held
    pub before_long : c.too_long ≡ true → lines_of closer s ≡ c.lines ++ lines_from closer c.held c.unread
    pub seen : c.too_long ≡ true → 0 < limit → take limit (first_line (lines_from closer c.held c.unread)) ≡ c.held

  cuts_all : (s : List ℕ) → CutsAll s (cutting closer limit [] s)
  cuts_all s =
      let c = cutting closer limit [] s in
      let lines_whole : lines_of closer s ≡ c.lines ++ lines_from closer c.held c.unread = rw (append-nil s, append-nil c.unread) at (cut_lines [] s []) in
      record {
        whole = λ e. lines_whole ∙ rw (all_read [] s e, lines_nil closer c.held);
        before_long = λ e. lines_whole;
        seen = λ e h.
            let n = long_held [] s e in
            ap (λ (k : ℕ). take k (first_line (lines_from closer c.held c.unread))) (sym n) ∙ first_begins c.held c.unread (omega arith);
      }

  -- for any cutting of a stream into portions
  pub lines_of_portions : (ps : List (List ℕ)) → CutsAll (joined ps) (by_portions (cutting closer limit [] []) ps)
  lines_of_portions ps = rw (portions_go_on [] ps) (cuts_all (joined ps))
