use Rattle.sel_ternary.proofs.Common.{◌≡◌, [], ◌∷◌, ap, length, ◌∙◌, rows, well_formed}
use Rattle.sel_ternary.proofs.OneList.{one_list_formed}
use Rattle.sel_ternary.proofs.if_then_else.lists.ListArrayI64Lists.of_one.Goals as goal

pub invariant_of-lists : goal.invariant_of-lists
invariant_of-lists c =
    let entries = rows c.args.entries.now.column in
    record {
      formed = one_list_formed c.in_ok-offsets.offsets entries c.in_ok-values.values.value (c.in_ok-offsets.ensures.offsets ∙ ap (λ n. 0 ∷ n ∷ []) c.len.ensures.len)
          (ap rows c.in_ok-values.ensures.ok ∙ c.in_ok-try_clone.ensures.rows ∙ ap rows c.as_column.ensures.column)
          (ap well_formed c.in_ok-values.ensures.ok ∙ c.in_ok-try_clone.ensures.formed);
    }
