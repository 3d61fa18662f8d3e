use Rattle.sel_arrow.specs.Rows.{type_of}
use Rattle.sel_text.proofs.{ColumnTypes.column_written, RoundTrip.type_back, RoundTrip.type_told}
use Rattle.sel_text.proofs.fit.read_again.Goals as goal

pub returns-in-Ok-print_dtype : goal.returns-in-Ok-print_dtype
returns-in-Ok-print_dtype c =
    let s = type_of c.args.column.now in
    let text = c.deref.result.now in
    let read = c.parse_dtype in
    let written = column_written c.args.column.now c.requires in
    let told = type_told s _ text _ written c.in-Ok.ensures.dtype c.deref.ensures c.in-Ok-print_dtype.ensures.text in
    let back = type_back s text written told read.result read.ensures.text read.ensures.widths read.ensures.levels read.ensures.refused read.ensures.limit in
    record { dtype = back.0; levels = back.1; refused = back.2; limit = back.3 }
