use Rattle.std.specs.{Prelude.length, Prelude.count_by, Prelude.◌==◌, List.list_all}
use Rattle.sel_arrow.{specs.Columns.boolean_rows, specs.Columns.primitive_rows, proofs.Lists.and_first}
use Rattle.sel_kernels.specs.{Pick.all_within, Select.is_true, SelectRows.rows_of_arrays}
use Rattle.tour.proofs.SourceRows.{rows_together}
use Rattle.tour.proofs.together.select_together.Goals as goal

pub returns : goal.returns
returns c =
    let columns = rows_of_arrays c.args.columns.now in
    let mask = boolean_rows c.args.mask.now in
    let indices = primitive_rows c.args.indices.now in
    let each = and_first (list_all (λ rows. length rows == length mask) columns) (all_within (count_by is_true mask) indices) c.requires in
    rw (rows_together c.law_select_rows.ensures columns mask indices each) at c.select_rows.ensures.rows
