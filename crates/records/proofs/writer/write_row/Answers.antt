-- `records::writer::write_row` meets its contract: a refused row writes nothing; an accepted one has the free part lent, and what
-- stands at its front stands at the place.
-- Assumes nothing.
use mathlib.Core.Path.{sym, ap, ◌∙◌}
use native.Mathlib.Omega.{arith}
use lib.ListN.{length, length-take, length-drop}
use Rattle.text.proofs.StoreLaws.{sets_free}
use Rattle.records.specs.Writer.{write_refusal}
use Rattle.records.specs.RecordRow.{record_text}
use Rattle.records.proofs.WriterLaws.{accepted_fits, accepted_place, write_done, write_refused}
use Rattle.records.proofs.writer.write_row.Goals as goal

pub returns-then-refusal-ne0 : goal.returns-then-refusal-ne0
returns-then-refusal-ne0 c =
    let a = c.args in
    let told = c.write_refusal-refusal.ensures ∙ ap (write_refusal a.x) c.free_from.ensures in
    rw told (sym (write_refused a.out.now a.at a.x (λ e. c.if-refusal-ne0.true (told ∙ e))))

pub slice_bounds-put_row-count : goal.slice_bounds-put_row-count
slice_bounds-put_row-count c =
    let a = c.args in
    let free = c.free_from in
    omega (arith, accepted_place a.x free.result (length a.out.now) a.at free.ensures (sym c.write_refusal-refusal.ensures ∙ c.if-refusal-ne0.false))

pub slice_bounds-put_row-start : goal.slice_bounds-put_row-start
slice_bounds-put_row-start c =
    let a = c.args in
    let free = c.free_from in
    omega (arith, accepted_place a.x free.result (length a.out.now) a.at free.ensures (sym c.write_refusal-refusal.ensures ∙ c.if-refusal-ne0.false))

pub put_row-long-requires : goal.put_row-long-requires
put_row-long-requires c =
    let a = c.args in
    let free = c.free_from in
    let none = sym c.write_refusal-refusal.ensures ∙ c.if-refusal-ne0.false in
    let room = accepted_place a.x free.result (length a.out.now) a.at free.ensures none in
    (accepted_fits a.x free.result none, simp (length-take, length-drop) (omega (arith, room)))

pub overflow_add-result : goal.overflow_add-result
overflow_add-result c =
    let a = c.args in
    let free = c.free_from in
    let none = sym c.write_refusal-refusal.ensures ∙ c.if-refusal-ne0.false in
    omega (arith, c.put_row-long.ensures.place_after, accepted_place a.x free.result (length a.out.now) a.at free.ensures none)

pub returns : goal.returns
returns c =
    let a = c.args in
    let free = c.free_from in
    let none = sym c.write_refusal-refusal.ensures ∙ c.if-refusal-ne0.false in
    let put = c.put_row-long.ensures in
    let room = accepted_place a.x free.result (length a.out.now) a.at free.ensures none in
    write_done a.out.now a.at a.x (sym (ap (write_refusal a.x) free.ensures) ∙ none) c.put_row-long.result _ put.place_after
    (sets_free a.out.now a.at (record_text a.x) _ room put.output)
