use Rattle.sel_lines.proofs.choose.choose_numbers.Goals as goal

pub returns-clause-rows : goal.returns-clause-rows
returns-clause-rows c =
    rw (c.in_ok-if_true.ensures.rows, c.in_ok-if_false.ensures.rows) at c.choose_columns.ensures.rows
