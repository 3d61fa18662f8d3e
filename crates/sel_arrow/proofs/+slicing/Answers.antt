use Rattle.std.proofs.Common.{◌≤◌, ◌+◌, ◌*◌, ◌∙◌, ap, sym, subst, map, length, All, rules, arith}
use Rattle.std.proofs.lemmas.List.Elements.{All-get_or, All-push}
use Rattle.sel_arrow.specs.Rows.{rows, buffers_held, type_of, well_formed, IsField, IsWellFormed}
use Rattle.sel_arrow.specs.declared.column.Column.{Column}
use Rattle.sel_arrow.proofs.NestedParts.{blocks_inside, blocks_fit, blocks_cover, blocks_within, blocks_part, blocks_part_rows, tuples_inside, fields_cover, fields_within, tuples_part, tuples_part_rows, tuples_type, tuples_held, part_rows, mapped_more, part_is_field}
use Rattle.sel_arrow.proofs.NestedRows.{has_blocks}
use Rattle.sel_arrow.proofs.+slicing.Goals as goal

pub fixed_size_list::FixedSizeListArray::part_of-sliced-requires : goal.fixed_size_list::FixedSizeListArray::part_of-sliced-requires
fixed_size_list::FixedSizeListArray::part_of-sliced-requires t c =
    let inside = blocks_inside c.args.size c.args._count c.args.values.now c.args.validity.now c.args.off c.args.len c.requires.inside in
    let below = (has_blocks c.args.size c.args._count c.args.values.now.value c.args.validity.now c.requires.formed).child in
    let within = blocks_within c.args.size c.args._count c.args.values.now c.args.validity.now c.args.off c.args.len c.requires.formed inside in
    (search rules, (ap well_formed c.deref.ensures ∙ below, omega (arith, within, ap (λ v. length (rows v)) c.deref.ensures)))

pub fixed_size_list::FixedSizeListArray::part_of-invariant_of-result : goal.fixed_size_list::FixedSizeListArray::part_of-invariant_of-result
fixed_size_list::FixedSizeListArray::part_of-invariant_of-result t c =
    let inside = blocks_inside c.args.size c.args._count c.args.values.now c.args.validity.now c.args.off c.args.len c.requires.inside in
    record {
      formed =
          blocks_part c.args.size c.args._count c.args.values.now c.in_ok-values-2.values c.args.validity.now c.in_ok-validity.validity c.args.off c.args.len c.requires.formed inside
          (ap rows c.in_ok-values-2.ensures.ok ∙ c.in_ok-values.ensures.rows ∙ ap (part_rows (c.args.off * c.args.size) (c.args.len * c.args.size)) c.deref.ensures)
          (ap well_formed c.in_ok-values-2.ensures.ok ∙ c.in_ok-values.ensures.formed) c.in_ok-validity.ensures.value;
    }

pub fixed_size_list::FixedSizeListArray::part_of-returns-clause-rows : goal.fixed_size_list::FixedSizeListArray::part_of-returns-clause-rows
fixed_size_list::FixedSizeListArray::part_of-returns-clause-rows t c =
    let inside = blocks_inside c.args.size c.args._count c.args.values.now c.args.validity.now c.args.off c.args.len c.requires.inside in
    blocks_part_rows c.args.size c.args._count c.args.values.now c.in_ok-values-2.values c.args.validity.now c.in_ok-validity.validity c.args.off c.args.len inside
    (ap rows c.in_ok-values-2.ensures.ok ∙ c.in_ok-values.ensures.rows ∙ ap (part_rows (c.args.off * c.args.size) (c.args.len * c.args.size)) c.deref.ensures) c.in_ok-validity.ensures.value

pub structure::StructArray::part_of-parts_of-requires : goal.structure::StructArray::part_of-parts_of-requires
structure::StructArray::part_of-parts_of-requires t c =
    let inside = tuples_inside c.args._count c.args.fields.now c.args.validity.now c.args.off c.args.len c.requires.inside in
    let within = fields_within c.args._count c.args.fields.now c.args.validity.now c.args.off c.args.len c.requires.formed inside in
    (search rules, subst (All (λ column. IsWellFormed column × (c.args.off + c.args.len ≤ length (rows column)))) (sym c.deref.ensures.value) within)

pub structure::StructArray::part_of-invariant_of-result : goal.structure::StructArray::part_of-invariant_of-result
structure::StructArray::part_of-invariant_of-result t c =
    let inside = tuples_inside c.args._count c.args.fields.now c.args.validity.now c.args.off c.args.len c.requires.inside in
    record {
      formed =
          tuples_part c.args._count c.args.fields.now c.in_ok-fields.fields c.args.validity.now c.in_ok-validity.validity c.args.off c.args.len c.requires.formed inside
          c.in_ok-fields.ensures.formed c.in_ok-validity.ensures.value;
    }

pub structure::StructArray::part_of-returns-clause-rows : goal.structure::StructArray::part_of-returns-clause-rows
structure::StructArray::part_of-returns-clause-rows t c =
    let inside = tuples_inside c.args._count c.args.fields.now c.args.validity.now c.args.off c.args.len c.requires.inside in
    tuples_part_rows c.args._count c.args.fields.now c.in_ok-fields.fields c.args.validity.now c.in_ok-validity.validity c.args.off c.args.len inside
    (c.in_ok-fields.ensures.rows ∙ ap (map (part_rows c.args.off c.args.len)) c.deref.ensures.value) c.in_ok-validity.ensures.value

pub structure::StructArray::part_of-returns-clause-dtype : goal.structure::StructArray::part_of-returns-clause-dtype
structure::StructArray::part_of-returns-clause-dtype t c =
    tuples_type c.args._count c.args.len c.args.fields.now c.in_ok-fields.fields c.args.validity.now c.in_ok-validity.validity (c.in_ok-fields.ensures.dtype ∙ ap (map type_of) c.deref.ensures.value)

pub structure::StructArray::part_of-returns-clause-buffers : goal.structure::StructArray::part_of-returns-clause-buffers
structure::StructArray::part_of-returns-clause-buffers t c =
    tuples_held c.args._count c.args.len c.args.fields.now c.in_ok-fields.fields c.args.validity.now c.in_ok-validity.validity (c.in_ok-fields.ensures.buffers ∙ ap (map buffers_held) c.deref.ensures.value)

pub structure::parts_of-loop-column-preserved : goal.structure::parts_of-loop-column-preserved
structure::parts_of-loop-column-preserved t c =
    let lt = c.loop-column-test.true in
    let is = c.column-item.is in
    let part = c.in_ok-sliced in
    let pushed = c.in_ok-push.ensures.items in
    let fits = λ (column : Column). IsWellFormed column × (c.args.off + c.args.len ≤ length (rows column)) in
    let within = subst fits (sym is) (All-get_or fits c.args.columns.now c.loop-column.column-index c.column-item.result lt c.requires.within) in
    record {
      rows = mapped_more rows (part_rows c.args.off c.args.len) c.args.columns.now c.loop-column.parts.items _ c.loop-column.column-index c.column-item.result part.field-0 lt is pushed part.ensures.rows c.loop-column.invariant.rows;
      dtype = mapped_more type_of type_of c.args.columns.now c.loop-column.parts.items _ c.loop-column.column-index c.column-item.result part.field-0 lt is pushed part.ensures.dtype c.loop-column.invariant.dtype;
      buffers = mapped_more buffers_held buffers_held c.args.columns.now c.loop-column.parts.items _ c.loop-column.column-index c.column-item.result part.field-0 lt is pushed part.ensures.buffers c.loop-column.invariant.buffers;
      formed =
          subst (All (IsField c.args.len)) (sym pushed)
          (All-push (IsField c.args.len) c.loop-column.parts.items part.field-0 c.loop-column.invariant.formed (part_is_field c.args.off c.args.len c.column-item.result part.field-0 part.ensures.rows within.1 part.ensures.formed));
    }

pub fixed_size_list::FixedSizeListArray::part_of-sliced_validity-requires : goal.fixed_size_list::FixedSizeListArray::part_of-sliced_validity-requires
fixed_size_list::FixedSizeListArray::part_of-sliced_validity-requires t c =
    let inside = blocks_inside c.args.size c.args._count c.args.values.now c.args.validity.now c.args.off c.args.len c.requires.inside in
    blocks_cover c.args.size c.args._count c.args.values.now c.args.validity.now c.args.off c.args.len c.requires.formed inside

pub structure::StructArray::part_of-sliced_validity-requires : goal.structure::StructArray::part_of-sliced_validity-requires
structure::StructArray::part_of-sliced_validity-requires t c =
    let inside = tuples_inside c.args._count c.args.fields.now c.args.validity.now c.args.off c.args.len c.requires.inside in
    fields_cover c.args._count c.args.fields.now c.args.validity.now c.args.off c.args.len c.requires.formed inside

pub fixed_size_list::FixedSizeListArray::part_of-overflow_mul-off : goal.fixed_size_list::FixedSizeListArray::part_of-overflow_mul-off
fixed_size_list::FixedSizeListArray::part_of-overflow_mul-off t c =
    let inside = blocks_inside c.args.size c.args._count c.args.values.now c.args.validity.now c.args.off c.args.len c.requires.inside in
    let fit = blocks_fit c.args.size c.args._count c.args.values.now c.args.validity.now c.args.off c.requires.formed (omega (arith, inside)) in
    omega (arith, fit)

pub fixed_size_list::FixedSizeListArray::part_of-overflow_mul-len : goal.fixed_size_list::FixedSizeListArray::part_of-overflow_mul-len
fixed_size_list::FixedSizeListArray::part_of-overflow_mul-len t c =
    let inside = blocks_inside c.args.size c.args._count c.args.values.now c.args.validity.now c.args.off c.args.len c.requires.inside in
    let fit = blocks_fit c.args.size c.args._count c.args.values.now c.args.validity.now c.args.len c.requires.formed (omega (arith, inside)) in
    omega (arith, fit)
