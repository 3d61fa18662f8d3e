use Rattle.sel_kernels.proofs.Common.{◌∙◌, arith, ap, length, map, take_all, boolean_rows, primitive_rows, rows, type_of, ArrayRef, take_rows, select}
use Rattle.sel_kernels.proofs.Common.{effective_mask, rules}
use Rattle.sel_kernels.proofs.SelectedRows.{long_at, mapped_step, none_past, refused_some, rows_mapped}
use Rattle.sel_kernels.proofs.select.select_rows.Goals as goal

pub select_column-requires-clause-long : goal.select_column-requires-clause-long
select_column-requires-clause-long c =
    ap (λ (a : ArrayRef). length (rows a.column)) c.column-item.is
    ∙ long_at c.args.columns.now (boolean_rows c.args.mask.now) (primitive_rows c.args.indices.now) c.loop-column.column-index c.column-item.result c.requires c.loop-column-test.true

pub returns-in-Err-clause-refusal : goal.returns-in-Err-clause-refusal
returns-in-Err-clause-refusal c =
    refused_some c.args.columns.now (boolean_rows c.args.mask.now) (primitive_rows c.args.indices.now) c.loop-column.column-index c.column-item.result c.in-Err.fault
    c.loop-column-test.true c.column-item.is c.in-Err.ensures.refusal

pub loop-column-preserved : goal.loop-column-preserved
loop-column-preserved c =
    let columns = c.args.columns.now in
    let selected = λ (a : ArrayRef). take_rows (select (rows a.column) (effective_mask (boolean_rows c.args.mask.now))) (primitive_rows c.args.indices.now) in
    let i = c.loop-column.column-index in
    let x = c.column-item.result in
    let taken = c.in-Ok.taken in
    record {
      taken = mapped_step (λ (a : ArrayRef). rows a.column) selected columns c.loop-column.selected.items _ i x taken c.loop-column-test.true c.column-item.is c.push_reserved.ensures.items
          c.in-Ok.ensures.rows c.loop-column.invariant.taken;
      types = mapped_step (λ (a : ArrayRef). type_of a.column) (λ (a : ArrayRef). type_of a.column) columns c.loop-column.selected.items _ i x taken c.loop-column-test.true c.column-item.is c.push_reserved.ensures.items
          c.in-Ok.ensures.dtype c.loop-column.invariant.types;
      count = omega (arith, c.push_reserved.ensures.len, c.loop-column.invariant.count);
      room = omega (arith, c.push_reserved.ensures.capacity, c.loop-column.invariant.room);
    }

pub returns : goal.returns
returns c =
    let columns = c.args.columns.now in
    let mask = boolean_rows c.args.mask.now in
    let indices = primitive_rows c.args.indices.now in
    let whole = take_all c.loop-column.column-index columns c.loop-column-test.false in
    let taken = c.loop-column.invariant.taken ∙ ap (map (λ (a : ArrayRef). take_rows (select (rows a.column) (effective_mask mask)) indices)) whole in
    let types = c.loop-column.invariant.types ∙ ap (map (λ (a : ArrayRef). type_of a.column)) whole in
    record {
      rows = taken ∙ rows_mapped mask indices columns;
      types = types;
      within = none_past columns c.loop-column.selected.items mask indices taken types;
      refusal = search rules;
    }
