use Rattle.sel_ternary.proofs.{Common.ap, Common.sym, Common.◌∙◌, Common.rows, Common.well_formed, OneList.one_block_formed}
use Rattle.sel_ternary.proofs.if_then_else.lists.FixedSizeListArrayLists.of_one.Goals as goal

pub invariant_of-lists : goal.invariant_of-lists
invariant_of-lists c = record {
  formed = one_block_formed c.len.result (rows c.args.entries.now.column) c.in_ok-values.values.value (sym c.len.ensures.len) c.len.ensures.few
      (ap rows c.in_ok-values.ensures.ok ∙ c.in_ok-try_clone.ensures.rows ∙ ap rows c.as_column.ensures.column)
      (ap well_formed c.in_ok-values.ensures.ok ∙ c.in_ok-try_clone.ensures.formed);
}
