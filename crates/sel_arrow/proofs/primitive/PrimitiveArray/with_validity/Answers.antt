use Rattle.sel_arrow.proofs.Rows.{covers_numbers}
use Rattle.sel_arrow.proofs.primitive.PrimitiveArray.with_validity.Goals as goal

pub invariant_of-result : goal.invariant_of-result
invariant_of-result g c =
    let column = c.args.self in
    record {
      rows_fit = column.rows_fit;
      validity_fits = covers_numbers g.T.NativeType.number column.values column.validity c.args.validity c.requires;
    }
