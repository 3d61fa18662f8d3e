use Rattle.sel_arrow.proofs.ViewRows.{covers_views}
use Rattle.sel_arrow.proofs.binview.BinaryViewArray.with_validity.Goals as goal

pub invariant_of-result : goal.invariant_of-result
invariant_of-result c =
    let column = c.args.self in
    record {
      rows_fit = column.rows_fit;
      buffers_fit = column.buffers_fit;
      validity_fits = covers_views column.views column.buffers column.validity c.args.validity c.requires;
      placed = column.placed;
    }
