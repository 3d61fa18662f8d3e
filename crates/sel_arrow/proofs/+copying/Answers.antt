use Rattle.std.proofs.Common.{ap, sym, subst, map, All, ◌∙◌}
use Rattle.std.proofs.lemmas.List.Elements.{All-push}
use Rattle.sel_arrow.specs.Rows.{rows, buffers_held, type_of, IsWellFormed}
use Rattle.sel_arrow.proofs.NestedParts.{mapped_more, tuples_type, tuples_held}
use Rattle.sel_arrow.proofs.+copying.Goals as goal

pub structure::StructArray::copy_of-returns-clause-dtype : goal.structure::StructArray::copy_of-returns-clause-dtype
structure::StructArray::copy_of-returns-clause-dtype t c =
    tuples_type c.args.len c.args.len c.args.fields.now c.in_ok-fields.fields c.args.validity.now c.in_ok-validity.validity (c.in_ok-fields.ensures.dtype ∙ ap (λ cs. map type_of cs) c.deref.ensures.value)

pub structure::StructArray::copy_of-returns-clause-buffers : goal.structure::StructArray::copy_of-returns-clause-buffers
structure::StructArray::copy_of-returns-clause-buffers t c =
    tuples_held c.args.len c.args.len c.args.fields.now c.in_ok-fields.fields c.args.validity.now c.in_ok-validity.validity (c.in_ok-fields.ensures.buffers ∙ ap (λ cs. map buffers_held cs) c.deref.ensures.value)

pub structure::copies_of-loop-column-preserved : goal.structure::copies_of-loop-column-preserved
structure::copies_of-loop-column-preserved t c =
    let lt = c.loop-column-test.true in
    let is = c.column-item.is in
    let copy = c.in_ok-try_clone in
    let pushed = c.in_ok-push.ensures.items in
    record {
      rows = mapped_more rows rows c.args.columns.now c.loop-column.copies.items _ c.loop-column.column-index c.column-item.result copy.field-0 lt is pushed copy.ensures.rows c.loop-column.invariant.rows;
      dtype = mapped_more type_of type_of c.args.columns.now c.loop-column.copies.items _ c.loop-column.column-index c.column-item.result copy.field-0 lt is pushed copy.ensures.dtype c.loop-column.invariant.dtype;
      buffers = mapped_more buffers_held buffers_held c.args.columns.now c.loop-column.copies.items _ c.loop-column.column-index c.column-item.result copy.field-0 lt is pushed copy.ensures.buffers c.loop-column.invariant.buffers;
      formed = subst (All IsWellFormed) (sym pushed) (All-push IsWellFormed c.loop-column.copies.items copy.field-0 c.loop-column.invariant.formed copy.ensures.formed);
    }
