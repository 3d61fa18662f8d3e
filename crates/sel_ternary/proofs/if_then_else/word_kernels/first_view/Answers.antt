use Rattle.sel_ternary.proofs.{Common.arith, Common.length, Common.ap, Common.View, WordKernels.first_viewed}
use Rattle.sel_arrow.proofs.ViewRows.{length-view_rows}
use Rattle.sel_ternary.proofs.if_then_else.word_kernels.first_view.Goals as goal

pub bounds-as_slice-0 : goal.bounds-as_slice-0
bounds-as_slice-0 c =
    let a = c.args.column.now in
    omega (arith, c.requires.one, length-view_rows a.views a.buffers a.validity, ap length c.as_slice.ensures)

pub returns-clause-row : goal.returns-clause-row
returns-clause-row c =
    let a = c.args.column.now in
    let none : View = record { length = 0; prefix = 0; buffer_idx = 0; offset = 0 } in
    rw c.as_slice.ensures (first_viewed a.views a.buffers a.validity none c.requires.one a.validity_fits c.requires.valid)
