use Rattle.std.proofs.Common.{◌∙◌, ap, sym, subst, length, replicate, w64, to_z, of_z}
use Rattle.std.proofs.lemmas.Bool.{cond-true, cond-false}
use Rattle.sel_lines.proofs.{Common.to_z-of_z, Common.IfOk-weaker, Common.Number, Common.column_text, Common.entries_text, ReadBlocks.entries_printed}
use Rattle.sel_kernels.specs.Entries.{at_each, IsGetError}
use Rattle.sel_lines.proofs.fixed.answer_blocks.Goals as goal

pub returns-in-Ok : goal.returns-in-Ok
returns-in-Ok c =
    let arr = c.in_ok-array.array in
    let index = to_z w64 (of_z w64 c.args.index) in
    IfOk-weaker c.print_column.result _ _
    (λ text made read has.
    made ∙ ap column_text (c.numbers_of.ensures ∙ c.in-Ok.ensures.rows)
    ∙ sym (cond-false _ _ _ c.in-Ok.ensures.inside)
    ∙ entries_printed arr c.args.width read index c.args.null_on_oob (c.in_ok-array.ensures.rows read has) c.in_ok-array.ensures.size
    ∙ ap (λ z. entries_text c.args.width read (replicate (length read) (Number z)) c.args.null_on_oob) (to_z-of_z w64 c.args.index c.ranges.index))
    c.print_column.ensures

pub returns-in-ComputeError : goal.returns-in-ComputeError
returns-in-ComputeError c =
    let arr = c.in_ok-array.array in
    let index = to_z w64 (of_z w64 c.args.index) in
    let outside = subst (IsGetError c.args.null_on_oob arr (at_each arr index)) c.in-ComputeError.is c.in-Err.ensures.refusal in
    IfOk-weaker c.from_str.result _ _
    (λ text made read has.
    made ∙ sym (cond-true _ _ _ outside)
    ∙ entries_printed arr c.args.width read index c.args.null_on_oob (c.in_ok-array.ensures.rows read has) c.in_ok-array.ensures.size
    ∙ ap (λ z. entries_text c.args.width read (replicate (length read) (Number z)) c.args.null_on_oob) (to_z-of_z w64 c.args.index c.ranges.index))
    c.from_str.ensures.ok
