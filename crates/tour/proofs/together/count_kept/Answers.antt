use Rattle.std.proofs.Common.{◌∙◌, ap, length}
use Rattle.sel_arrow.specs.{Columns.boolean_rows, Rows.rows}
use Rattle.sel_kernels.proofs.SelectedRows.{kept_count}
use Rattle.tour.proofs.together.count_kept.Goals as goal

pub returns-clause-count : goal.returns-clause-count
returns-clause-count c =
    c.len-count.ensures.len ∙ ap length c.in_ok-kept.ensures.rows
    ∙ kept_count (rows c.args.column.now.column) (boolean_rows c.args.mask.now) c.requires
