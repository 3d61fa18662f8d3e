use Rattle.sel_lines.proofs.take.take_rows.Goals as goal

pub returns-clause-rows : goal.returns-clause-rows
returns-clause-rows c = rw (c.in_ok-column.ensures.rows, c.in_ok-indices.ensures.rows) at c.take_column-taken.ensures.rows
