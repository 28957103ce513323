-- A row that is read at the front of what is left of a portion: the cutter would cut exactly that line, and the reader of rows
-- accept it as that row.
-- Assumes nothing.
use mathlib.Core.Path.{◌≡◌, refl, sym, ap, subst, ◌∙◌}
use mathlib.Core.Bool.{Bool, true, false, cond, false≢true}
use mathlib.Core.List.{List, [], ◌∷◌, ◌++◌, append_assoc}
use Prim.Native.Nat.{ℕ, suc, ◌+◌, ◌≤◌, ◌<◌}
use native.Mathlib.Numerals.{add-one}
use native.Mathlib.Omega.{arith}
use lib.Dec.{leb, eqb}
use lib.ListN.{length, get_or, drop, length-append}
use lib.Seq.{drop-cons, drop-drop}
use borrow.Author.Tests.{leb-true, le-leb, eqb-true}
use Rattle.std.specs.Prelude.{Option, Some, None, option_and_then, Ok}
use Rattle.std.specs.Option.{option_map}
use Rattle.std.proofs.lemmas.Option.{cond_some, option_and_then_some}
use Rattle.text.specs.declared.lines.Closer.TheVariants.{CrLf}
use Rattle.text.specs.Number.{leading}
use Rattle.text.specs.Line.{lf, fits_in, right_shape, values_of, numbers_of, written}
use Rattle.text.specs.Lines.{one_more, cutting}
use Rattle.text.proofs.DigitLaws.{leading_length}
use Rattle.text.proofs.ShapeLaws.{close_of, closing, closing_written, lead_split, lead_digits, written_right, written_numbers, shape_least, shape_most}
use Rattle.text.proofs.LinesLaws.{line_cut}
use Rattle.faults.proofs.RightLaws.{right_faultless}
use Rattle.rows.specs.declared.front.Field.{Field}
use Rattle.rows.specs.declared.front.Front.{Front}
use Rattle.rows.specs.Row.{row_of, block_refusal, row_answer}
use Rattle.rows.specs.Widths.{row_widths}
use Rattle.rows.specs.device.Front.{front_room, field_from, Numbers, with_value, closer_of, numbers_from, front_of, fields_from, next_front, front_answer}
use Rattle.rows.proofs.NumberedLaws.{numbered_rest}
use Rattle.text.proofs.ScanLaws.{total}
use Rattle.rows.proofs.FrontReading.{FieldStands, field_stands, field_near}

-- where a value is given, so is what gives it
cond_given : (b : Bool) (o : Option Front) (x : Front) → cond b o None ≡ Some x → (b ≡ true) × (o ≡ Some x)
cond_given true o x e = (refl, e)
cond_given false o x e = cc

-- ---- fields that stand in a portion

module _ (p : List ℕ) where
  -- fields that fit, one after the other from a place on, each with its closer, and LF after the last
  record Standing (ws : List ℕ) (fs : List (List ℕ)) (at next : ℕ) : Type 0 where
    here : drop at p ≡ closing fs ++ drop next p
    fits : fits_in ws fs ≡ true
    place : next ≡ at + length (closing fs)
    within : next ≤ length p

  standing_lf : (at : ℕ) → at < length p → get_or p at 0 ≡ lf → Standing [] [] at (at + 1)
  unfolding closing fits_in
  standing_lf at h e = record {
    here = drop-cons p at 0 h ∙ rw (e, add-one at);
    fits = refl;
    place = refl;
    within = omega (arith, h);
  }

  -- one field more at the front, where the reader of fields finds it closed
  module _ (w closer : ℕ) (ws : List ℕ) (fs : List (List ℕ)) (at next : ℕ) (f : Field) (e : closer ≡ close_of fs) (h : FieldStands w closer p at f) (rest : Standing ws fs f.next next) where
    abbrev digits : List ℕ
    digits = leading w (drop at p)

    after : drop (suc (at + length digits)) p ≡ closing fs ++ drop next p
    after = ap (λ (n : ℕ). drop n p) (sym (h.next ∙ add-one (at + length digits))) ∙ rest.here

    standing_field : Standing (w ∷ ws) (digits ∷ fs) at next
    unfolding closing fits_in
    standing_field =
        let inside : at + length digits < length p = omega (arith, h.next, rest.place, rest.within) in
        let closed : get_or p (at + length digits) 0 ≡ close_of fs = h.closed ∙ e in
        record {
          here =
              sym (lead_split w (drop at p))
              ∙ ap (λ (t : List ℕ). digits ++ t) (drop-drop (length digits) at p ∙ drop-cons p (at + length digits) 0 inside ∙ rw (closed, after))
              ∙ sym (append_assoc digits (close_of fs ∷ closing fs) (drop next p));
          fits = rw (lead_digits w (drop at p), h.some, le-leb (length digits) w (leading_length w (drop at p))) rest.fits;
          place = rw (length-append digits (close_of fs ∷ closing fs)) (omega (arith, h.next, rest.place));
          within = rest.within;
        }

  -- ---- those that were read

  record StandingRead (ws : List ℕ) (at : ℕ) (x : Numbers) : Type 0 where
    fields : List (List ℕ)
    standing : Standing ws fields at x.next
    values : x.values ≡ values_of fields
    closer : closer_of ws ≡ close_of fields

  standing_read : (ws : List ℕ) (at : ℕ) (x : Numbers) → at + total ws + length ws < length p → numbers_from ws p at ≡ Some x → StandingRead ws at x
  unfolding numbers_from
  standing_read [] at x room e =
      let (end, same) = cond_some (eqb (get_or p at 0) lf) (record { values = []; next = at + 1 }) x e in
      let there = standing_lf at (omega (arith, room)) (eqb-true (get_or p at 0) lf end) in
      subst (λ (z : Numbers). StandingRead [] at z) same (record { fields = []; standing = there; values = refl; closer = refl })
  standing_read (w ∷ ws) at x room e =
      option_and_then_some (λ (f : Field). option_map (with_value f.value) (numbers_from ws p f.next)) (field_from w (closer_of ws) p at) x e
      (λ f q h. one_more f q (numbers_from ws p f.next) h (λ y g. standing_read ws f.next y (omega (arith, room, field_near w (closer_of ws) p at f q)) g))
    where
      one_more : (f : Field) → field_from w (closer_of ws) p at ≡ Some f → (o : Option Numbers) → option_map (with_value f.value) o ≡ Some x
          → ((y : Numbers) → o ≡ Some y → StandingRead ws f.next y) → StandingRead (w ∷ ws) at x
      one_more f q None h more = cc
      one_more f q (Some y) h more =
          let there = field_stands w (closer_of ws) p at f q in
          let rest = more y refl in
          let same : with_value f.value y ≡ x = cc in
          subst (λ (z : Numbers). StandingRead (w ∷ ws) at z) same (record {
            fields = leading w (drop at p) ∷ rest.fields;
            standing = standing_field w (closer_of ws) ws rest.fields at y.next f rest.closer there rest.standing;
            values = cc (there.value, rest.values);
            closer = refl;
          })

-- ---- the row that the reader of rows accepts

row_right : (line : List ℕ) (last : ℕ) (ns : List ℕ) → right_shape row_widths line ≡ true → numbers_of line ≡ ns → get_or ns 0 0 ≡ last + 1 → get_or ns 5 0 ≤ 1 → row_answer line last ≡ Ok (row_of ns)
unfolding row_answer
row_right line last ns right e next low =
    let told = numbered_rest row_widths block_refusal line last (right_faultless row_widths line (omega arith) right) (rw e next) in
    rw (told, e, le-leb (get_or ns 5 0) 1 low)

-- ---- WHAT A RIGHT FRONT IS, for who reads on from its end

pub record AtFront (p : List ℕ) (at last : ℕ) (x : Front) : Type 0 where
  pub line : List ℕ
  pub here : drop at p ≡ line ++ drop x.next p
  -- the reader of rows, on that line
  pub accepted : row_answer line last ≡ Ok x.row
  -- the cutter of the stream, whatever comes after it
  pub cut : (rest : List ℕ) → cutting CrLf front_room [] (line ++ rest) ≡ one_more line (cutting CrLf front_room [] rest)
  pub place : x.next ≡ at + length line
  pub farther : at < x.next
  pub within : x.next ≤ length p

module _ (p : List ℕ) (at last : ℕ) where
  numbers_front : (x : Numbers) → at + front_room ≤ length p → numbers_from row_widths p at ≡ Some x → get_or x.values 5 0 ≤ 1 → get_or x.values 0 0 ≡ last + 1
      → AtFront p at last (record { row = row_of x.values; next = x.next })
  unfolding fits_in
  numbers_front x room e low n =
      let read = standing_read p row_widths at x (omega (arith, room)) e in
      by_fields x read.fields read.standing read.values low n
    where
      by_fields : (x : Numbers) (fs : List (List ℕ)) → Standing p row_widths fs at x.next → x.values ≡ values_of fs → get_or x.values 5 0 ≤ 1 → get_or x.values 0 0 ≡ last + 1
          → AtFront p at last (record { row = row_of x.values; next = x.next })
      by_fields x [] standing values low n = absurd (false≢true standing.fits)
      by_fields x (f ∷ fs) standing values low n =
          let line : List ℕ = written (f ∷ fs) in
          let e : closing (f ∷ fs) ≡ line = closing_written f fs in
          let right : right_shape row_widths line ≡ true = written_right 6 (10 ∷ 7 ∷ 7 ∷ 7 ∷ 1 ∷ []) (f ∷ fs) standing.fits in
          let most = shape_most row_widths line (omega arith) right in
          let least = shape_least row_widths line (omega arith) right in
          let place : x.next ≡ at + length line = standing.place ∙ ap (λ (t : List ℕ). at + length t) e in
          record {
            line = line;
            here = standing.here ∙ ap (λ (t : List ℕ). t ++ drop x.next p) e;
            accepted = row_right line last x.values right (written_numbers 6 (10 ∷ 7 ∷ 7 ∷ 7 ∷ 1 ∷ []) (f ∷ fs) standing.fits ∙ sym values) n low;
            cut = λ rest. line_cut front_room row_widths line rest right (omega (arith, most));
            place = place;
            farther = omega (arith, place, least);
            within = standing.within;
          }

  pub at_front : (x : Front) → front_answer p at last ≡ Some x → AtFront p at last x
  unfolding front_answer fields_from
  at_front x e =
      let (room, read) = cond_given (leb (at + front_room) (length p)) (option_and_then (next_front last) (fields_from p at)) x e in
      option_and_then_some (next_front last) (fields_from p at) x read (λ y q h.
      let (next, same) = cond_some (eqb y.row.number (last + 1)) y x h in
      option_and_then_some front_of (numbers_from row_widths p at) y q (λ z g k.
      let (low, front) = cond_some (leb (get_or z.values 5 0) 1) (record { row = row_of z.values; next = z.next }) y k in
      rw (← same, ← front) (numbers_front z (leb-true (at + front_room) (length p) room) g (leb-true (get_or z.values 5 0) 1 low) (rw (sym front) at (eqb-true y.row.number (last + 1) next)))))
