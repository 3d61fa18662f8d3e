use Rattle.sel_lines.proofs.table.select_read.Goals as goal

pub returns-clause-rows : goal.returns-clause-rows
returns-clause-rows c = rw (c.in_ok-mask.ensures.rows, c.in_ok-indices.ensures.rows) at c.select_columns.ensures.rows
