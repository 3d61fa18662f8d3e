use Rattle.std.proofs.Common.{◌∙◌, ap, w64}
use Rattle.sel_lines.proofs.Common.{to_z-of_z, IfOk-weaker, rows, column_text}
use Rattle.sel_arrow.specs.NestedArrays.{list_column}
use Rattle.sel_kernels.specs.Lists.{list_get}
use Rattle.sel_lines.proofs.get.answer_lists.Goals as goal

pub returns-in-Ok : goal.returns-in-Ok
returns-in-Ok c =
    IfOk-weaker c.print_column.result _ _
    (λ text made read has.
    made ∙ ap column_text
    (c.numbers_of.ensures ∙ c.in-Ok.ensures.rows ∙ ap (list_get (rows (list_column c.in_ok-array.array))) (to_z-of_z w64 c.args.index c.ranges.index)
    ∙ ap (λ vs. list_get vs c.args.index) (c.in_ok-array.ensures.rows read has)))
    c.print_column.ensures
