use Rattle.sel_gather.proofs.{Common.type_of, Walks.lists_child, Walks.lists_listing}
use Rattle.sel_gather.proofs.Common.{◌≡◌, ◌≤◌, ◌∙◌, ExceedsNone, ExceedsRows, Null, ap, arith, child, columns_of, exceeded_taken, expand, joined_items, length, map, max_rows, pick, rules, subst}
use Rattle.sel_gather.proofs.{ItemRuns.below_of, ItemRuns.rows_of, Within.few_rows_pass, Within.passes_neither}
use Rattle.sel_runs.proofs.RunLists.{length-pick}
use Rattle.sel_gather.proofs.Common.{of_large_list, sym}
use Rattle.sel_gather.proofs.gather.gather_lists.Goals as goal

pub walk_lists-requires-clause-lists : goal.walk_lists-requires-clause-lists
walk_lists-requires-clause-lists g c = lists_listing (type_of c.args.child.now) c.args.sources.now c.requires.alike

pub collect_children-requires-clause-lists : goal.collect_children-requires-clause-lists
collect_children-requires-clause-lists g c = lists_listing (type_of c.args.child.now) c.args.sources.now c.requires.alike

pub collect_children-requires-clause-alike : goal.collect_children-requires-clause-alike
collect_children-requires-clause-alike g c = lists_child (type_of c.args.child.now) c.args.sources.now c.requires.alike

pub gather_spanned_lists-requires-clause-may : goal.gather_spanned_lists-requires-clause-may
gather_spanned_lists-requires-clause-may g c = record { alike = c.requires.alike; formed = c.requires.formed; fits = c.requires.fits }

pub returns : goal.returns
returns g c =
    let s = type_of c.args.child.now in
    let cs = c.args.sources.now in
    let yss = below_of cs in
    let items = joined_items 0 (pick Null (rows_of cs) (g.P.Plan.picks c.args.plan.now)) in
    let below = exceeded_taken s (map child (columns_of cs)) in
    let same : pick Null yss (expand c.deref.result.now) ≡ items = ap (λ r. pick Null yss (expand r)) c.deref.ensures.value ∙ c.in_ok-ends.ensures.items in
    let few : length items ≤ max_rows = omega (arith, ap length c.in_ok-ends.ensures.items, length-pick Null yss (expand c.in_ok-ends.below.items), c.in_ok-ends.ensures.count, c.in_ok-ends.ensures.few) in
    record {
      rows = c.in_ok-column-2.ensures.rows;
      dtype = search rules;
      formed = c.in_ok-column-2.ensures.formed;
      within = passes_neither (ExceedsRows (length items)) (below items) (few_rows_pass (length items) few) (subst (λ l. ExceedsNone (below l)) same c.in_ok-values.ensures.within);
      refusal = search rules;
    }

pub lists_over-requires-clause-lists : goal.lists_over-requires-clause-lists
lists_over-requires-clause-lists g c = λ k d h. c.requires.alike k d h ∙ ap of_large_list (sym c.in_ok-values.ensures.dtype)

pub lists_over-requires-clause-below : goal.lists_over-requires-clause-below
lists_over-requires-clause-below g c =
    c.in_ok-values.ensures.rows ∙ ap (λ r. pick Null (below_of c.args.sources.now) (expand r)) c.deref.ensures.value ∙ c.in_ok-ends.ensures.items
