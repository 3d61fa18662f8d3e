use Rattle.std.proofs.Common.{◌≡◌, ◌==◌, ◌∙◌, ap, sym, length, arith}
use Rattle.sel_arrow.proofs.Common.{row_count, ArrayRef}
use Rattle.sel_arrow.proofs.{Lists.all_more, Lists.all_of_them, Lists.none_at, NestedMakers.count_fits, NestedMakers.count_differs}
use Rattle.sel_arrow.proofs.structure.have_rows.Goals as goal

pub returns-then-len : goal.returns-then-len
returns-then-len c =
    let fits = λ (column : ArrayRef). row_count column.column == c.args.len in
    let here = c.column-item.result in
    sym (none_at fits c.args.columns.now c.loop-column.column-index here c.loop-column-test.true (sym (ap fits c.column-item.is) ∙ count_differs c.args.len c.len.result here.column c.len.ensures.len c.if-len.true))

pub loop-column-preserved : goal.loop-column-preserved
loop-column-preserved c =
    let fits = λ (column : ArrayRef). row_count column.column == c.args.len in
    let here = c.column-item.result in
    all_more fits c.args.columns.now c.loop-column.column-index here c.loop-column.invariant c.loop-column-test.true (sym (ap fits c.column-item.is) ∙ count_fits c.args.len c.len.result here.column c.len.ensures.len c.if-len.false)

pub returns : goal.returns
returns c =
    let fits = λ (column : ArrayRef). row_count column.column == c.args.len in
    let whole : c.loop-column.column-index ≡ length c.args.columns.now = omega (arith, c.loop-column-test.false, c.loop-column.auto.column-index-end) in
    sym (all_of_them fits c.args.columns.now c.loop-column.column-index c.loop-column.invariant whole)
