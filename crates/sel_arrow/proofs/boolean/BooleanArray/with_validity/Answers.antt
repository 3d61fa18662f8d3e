use Rattle.sel_arrow.proofs.Rows.{covers_truths}
use Rattle.sel_arrow.proofs.boolean.BooleanArray.with_validity.Goals as goal

pub invariant_of-result : goal.invariant_of-result
invariant_of-result c =
    let column = c.args.self in
    record {
      rows_fit = column.rows_fit;
      validity_fits = covers_truths column.values.bits column.validity c.args.validity c.requires;
    }
