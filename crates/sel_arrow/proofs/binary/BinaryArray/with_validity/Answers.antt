use Rattle.sel_arrow.proofs.ByteRows.{covers_bytes}
use Rattle.sel_arrow.proofs.binary.BinaryArray.with_validity.Goals as goal

pub invariant_of-result : goal.invariant_of-result
invariant_of-result g c =
    let column = c.args.self in
    record {
      rising = column.rising;
      rows_fit = column.rows_fit;
      values_fit = column.values_fit;
      bytes_fit = column.bytes_fit;
      validity_fits = covers_bytes column.offsets column.values column.validity c.args.validity c.requires;
    }
