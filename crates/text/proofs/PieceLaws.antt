-- The pieces that a cutter answers: what they are of a stream, and what a client may rely on.
-- Assumes nothing.
use mathlib.Core.Path.{◌≡◌, refl, sym, ap, ◌∙◌}
use mathlib.Core.List.{List, [], ◌∷◌, ◌++◌, append-nil}
use Prim.Native.Nat.{ℕ, ◌+◌, ◌≤◌, ◌<◌}
use native.Mathlib.Omega.{arith}
use lib.ListN.{length, take, drop, length-append, length-take, length-drop, take-append-drop}
use lib.Seq.{sets-eq, length-sets, take_at, append_snoc, drop-drop}
use borrow.Author.Tests.{lt-ltb, le-ltb}
use Rattle.text.specs.declared.lines.Closer.{Closer}
use Rattle.text.specs.declared.lines.Cut.{Cut}
use Rattle.text.specs.declared.lines.Cut.TheVariants.{Held, Closed, TooLong}
use Rattle.text.specs.declared.cutter.Cutter.{Cutter}
use Rattle.text.specs.declared.cutter.PieceCut.{PieceCut}
use Rattle.text.specs.Lines.{cutting_by, cut_so_far, cutting}
use Rattle.text.specs.Cutter.{Piece, piece_by, piece_of, held_room, held_line, holding, limit_of, cut_from, piece_from, piece_if, piece_answer}
use Rattle.text.proofs.CutLaws.{by_cut}

closed_not_held : Closed ≡ Held → ⊥
closed_not_held t = let z : ◌≡◌ {A = ℕ} 0 1 = cc in omega arith

long_not_held : TooLong ≡ Held → ⊥
long_not_held t = let z : ◌≡◌ {A = ℕ} 0 1 = cc in omega arith

-- ---- a piece of a stream

-- it stands at the front; there is one where a byte is left; the line with it is no longer than the limit, and shorter where it is held
pub record IsPiece (limit : ℕ) (line s : List ℕ) (x : Piece) : Type 0 where
  pub front : take (length x.bytes) s ≡ x.bytes
  pub some : 0 < length s → 0 < length x.bytes
  pub within : length line + length x.bytes ≤ limit
  pub short : x.cut ≡ Held → length line + length x.bytes < limit
  pub all : x.cut ≡ Held → x.bytes ≡ s

module _ (closer : Closer) (limit : ℕ) where
  pub is_piece : (line s : List ℕ) → length line < limit → IsPiece limit line s (piece_of closer limit line s)
  unfolding piece_of
  is_piece line [] h = record { front = refl; some = λ k. k; within = omega arith; short = λ e. omega arith; all = λ e. refl }
  is_piece line (b ∷ s) h =
      let next = line ++ (b ∷ []) in
      let n : length next ≡ length line + 1 = length-append line (b ∷ []) in
      by_cut closer limit next (λ (k : Cut). IsPiece limit line (b ∷ s) (piece_by k b (piece_of closer limit next s)))
      (λ e. record { front = refl; some = λ k. omega arith; within = omega arith; short = λ t. absurd (closed_not_held t); all = λ t. absurd (closed_not_held t) })
      (λ e f. record { front = refl; some = λ k. omega arith; within = omega arith; short = λ t. absurd (long_not_held t); all = λ t. absurd (long_not_held t) })
      (λ e f.
      let more = is_piece next s (omega (arith, f, n)) in
      record {
        front = ap (λ (l : List ℕ). b ∷ l) more.front;
        some = λ k. omega arith;
        within = omega (arith, more.within, n);
        short = λ t. omega (arith, more.short t, n);
        all = λ t. ap (λ (l : List ℕ). b ∷ l) (more.all t);
      })

  -- the cutting of a stream, piece by piece
  pub cutting_by_pieces : (line s : List ℕ)
      → let x : Piece = piece_of closer limit line s in cutting closer limit line s
      ≡ cutting_by x.cut (line ++ x.bytes) (drop (length x.bytes) s) (cut_so_far (line ++ x.bytes)) (cutting closer limit [] (drop (length x.bytes) s))
  unfolding piece_of cutting
  cutting_by_pieces line [] = rw (append-nil line)
  cutting_by_pieces line (b ∷ s) =
      let next = line ++ (b ∷ []) in
      by_cut closer limit next
      (λ (k : Cut).
      let x : Piece = piece_by k b (piece_of closer limit next s) in
      cutting_by k next s (cutting closer limit next s) (cutting closer limit [] s)
      ≡ cutting_by x.cut (line ++ x.bytes) (drop (length x.bytes) (b ∷ s)) (cut_so_far (line ++ x.bytes)) (cutting closer limit [] (drop (length x.bytes) (b ∷ s))))
      (λ e. refl)
      (λ e f. refl)
      (λ e f. let x = piece_of closer limit next s in rw (← append_snoc line b x.bytes) (cutting_by_pieces next s))

-- ---- a cutter that holds bytes more

pub held_with : (c : Cutter) (bytes : List ℕ) → c.count + length bytes ≤ length c.held → held_line (holding c bytes) ≡ held_line c ++ bytes
held_with c bytes h =
    let l : length (held_line c ++ bytes) ≡ c.count + length bytes = rw (length-append, length-take) (omega arith) in
    rw (sets-eq bytes c.held c.count h) (take_at (held_line c ++ bytes) (drop (c.count + length bytes) c.held) (c.count + length bytes) l)

-- ---- what a cutter answers, by its line

module _ (closer : Closer) (limit : ℕ) (c : Cutter) (p : List ℕ) (from : ℕ) where
  pub answer_short : c.count < limit_of limit → piece_answer closer limit c p from ≡ piece_from closer (limit_of limit) c p from
  unfolding piece_if
  answer_short h = rw (lt-ltb c.count (limit_of limit) h)

  pub answer_full : limit_of limit ≤ c.count → piece_answer closer limit c p from ≡ record { cut = TooLong; cutter = c; next = from }
  unfolding piece_if
  answer_full h = rw (le-ltb c.count (limit_of limit) h)

-- ---- what a client of the cutter relies on, of a line that has room for a byte more

pub record PieceTaken (closer : Closer) (limit : ℕ) (c : Cutter) (p : List ℕ) (from : ℕ) (r : PieceCut) : Type 0 where
  pub answer : r ≡ cut_from c from (piece_of closer limit (held_line c) (drop from p))
  pub line : held_line r.cutter ≡ held_line c ++ (piece_of closer limit (held_line c) (drop from p)).bytes
  pub rest : drop from p ≡ (piece_of closer limit (held_line c) (drop from p)).bytes ++ drop r.next p
  pub room : length r.cutter.held ≡ held_room
  pub fits : r.cutter.count ≤ limit
  pub short : r.cut ≡ Held → r.cutter.count < limit
  pub all : r.cut ≡ Held → r.cutter ≡ holding c (drop from p)
  pub counted : r.cutter.count + from ≡ c.count + r.next
  pub farther : from < length p → from < r.next
  pub within : from < length p → r.next ≤ length p

module _ (closer : Closer) (limit : ℕ) (c : Cutter) (p : List ℕ) (from : ℕ) (short : c.count < limit) (fits : limit ≤ held_room) (room : length c.held ≡ held_room)
    (r : PieceCut) (e : r ≡ piece_answer closer limit c p from) where
  abbrev piece : Piece
  piece = piece_of closer limit (held_line c) (drop from p)

  cut_from_law : r ≡ cut_from c from piece
  cut_from_law =
      let same : limit_of limit ≡ limit = omega arith in
      e ∙ answer_short closer limit c p from (omega (arith, short, same)) ∙ ap (λ (n : ℕ). piece_from closer n c p from) same

  held_length : length (held_line c) ≡ c.count
  held_length = rw length-take (omega (arith, short, fits, room))

  cut_piece : IsPiece limit (held_line c) (drop from p) piece
  cut_piece = is_piece closer limit (held_line c) (drop from p) (omega (arith, held_length, short))

  pub piece_taken : PieceTaken closer limit c p from r
  piece_taken =
      let next : r.next ≡ from + length piece.bytes = ap (λ (x : PieceCut). x.next) cut_from_law in
      let count : r.cutter.count ≡ c.count + length piece.bytes = ap (λ (x : PieceCut). x.cutter.count) cut_from_law in
      let front = rw (length-take, length-drop) at (ap length cut_piece.front) in
      let left : from < length p → 0 < length (drop from p) = λ more. rw length-drop (omega (arith, more)) in
      record {
        answer = cut_from_law;
        line = ap (λ (x : PieceCut). held_line x.cutter) cut_from_law ∙ held_with c piece.bytes (omega (arith, cut_piece.within, held_length, fits, room));
        rest = sym (take-append-drop (length piece.bytes) (drop from p)) ∙ rw (cut_piece.front, next, drop-drop (length piece.bytes) from p);
        room = ap (λ (x : PieceCut). length x.cutter.held) cut_from_law ∙ length-sets c.held c.count piece.bytes ∙ room;
        fits = omega (arith, count, held_length, cut_piece.within);
        short = λ told. omega (arith, count, held_length, cut_piece.short (sym (ap (λ (x : PieceCut). x.cut) cut_from_law) ∙ told));
        all = λ told. ap (λ (x : PieceCut). x.cutter) cut_from_law ∙ ap (holding c) (cut_piece.all (sym (ap (λ (x : PieceCut). x.cut) cut_from_law) ∙ told));
        counted = omega (arith, count, next);
        farther = λ more. omega (arith, next, cut_piece.some (left more));
        within = λ more. omega (arith, next, front, more);
      }

  -- the cutting of the portion goes on from the answer: where the piece is held, it ends there
  pub cutting_goes_on : cutting closer limit (held_line c) (drop from p)
      ≡ cutting_by r.cut (held_line r.cutter) (drop r.next p) (cut_so_far (held_line r.cutter)) (cutting closer limit [] (drop r.next p))
  cutting_goes_on =
      let next = ap (λ (x : PieceCut). x.next) cut_from_law in
      cutting_by_pieces closer limit (held_line c) (drop from p)
      ∙ rw (piece_taken.line, ap (λ (x : PieceCut). x.cut) cut_from_law, next, drop-drop (length piece.bytes) from p)
