use Rattle.sel_gather.proofs.Common.{ExceedsNone, ExceedsRows, IfSome, Null, arith, child, columns_of, exceeded_taken, joined_items, length, map, pick, rules, subst, type_of}
use Rattle.sel_gather.proofs.{ItemRuns.rows_of, Within.few_rows_pass, Within.passes_neither}
use Rattle.sel_gather.proofs.flat_lists.gather_spanned_lists.Goals as goal

pub returns : goal.returns
returns g c =
    let s = type_of c.args.child.now in
    let cs = c.args.sources.now in
    let items = joined_items 0 (pick Null (rows_of cs) (g.P.Plan.picks c.args.plan.now)) in
    let below = exceeded_taken s (map child (columns_of cs)) items in
    record {
      rows = c.in_ok-column.ensures.rows;
      dtype = search rules;
      formed = c.in_ok-column.ensures.formed;
      within = passes_neither (ExceedsRows (length items)) below (few_rows_pass (length items) (omega (arith, c.in_ok-ends.ensures.count, c.in_ok-ends.ensures.few)))
          (subst (λ made. IfSome made (λ _. ExceedsNone below)) c.in-Some.is c.in_ok-values.ensures.within);
      refusal = search rules;
    }
