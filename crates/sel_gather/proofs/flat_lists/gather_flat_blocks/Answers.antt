use Rattle.sel_gather.proofs.Common.{◌∙◌, ◌*◌, arith, rules, ap, sym, subst, inl, length, map, IfSome, type_of, Null, child, joined_items, ExceedsNone}
use Rattle.sel_gather.proofs.Common.{ExceedsRows, exceeded_taken, pick, columns_of}
use Rattle.sel_gather.proofs.{FlatItems.blocks_count, ItemRuns.rows_of, Within.few_rows_pass, Within.passes_neither}
use Rattle.sel_gather.proofs.flat_lists.gather_flat_blocks.Goals as goal

pub returns-then-need : goal.returns-then-need
returns-then-need g c =
    let ps = g.P.Plan.picks c.args.plan.now in
    let need = blocks_count (type_of c.args.child.now) c.args.size c.args.sources.now c.requires.may.alike c.requires.may.formed ps in
    let long = ap (λ n. n * c.args.size) c.len.ensures.len in
    record { rows = search rules; dtype = search rules; formed = search rules; within = search rules; refusal = inl (omega (arith, need, long, c.if-need.true)) }

pub gather_items-requires-clause-need : goal.gather_items-requires-clause-need
gather_items-requires-clause-need g c =
    let ps = g.P.Plan.picks c.args.plan.now in
    let need = blocks_count (type_of c.args.child.now) c.args.size c.args.sources.now c.requires.may.alike c.requires.may.formed ps in
    ap (λ n. n * c.args.size) c.len.ensures.len ∙ sym need

pub returns : goal.returns
returns g c =
    let ps = g.P.Plan.picks c.args.plan.now in
    let vs = pick Null (rows_of c.args.sources.now) ps in
    let need = blocks_count (type_of c.args.child.now) c.args.size c.args.sources.now c.requires.may.alike c.requires.may.formed ps in
    let long = ap (λ n. n * c.args.size) c.len.ensures.len in
    let items = joined_items c.args.size vs in
    let below = exceeded_taken (type_of c.args.child.now) (map child (columns_of c.args.sources.now)) items in
    record {
      rows = c.in_ok-column.ensures.rows;
      dtype = search rules;
      formed = c.in_ok-column.ensures.formed;
      within = passes_neither (ExceedsRows (length items)) below (few_rows_pass (length items) (omega (arith, need, long, c.if-need.false)))
          (subst (λ made. IfSome made (λ _. ExceedsNone below)) c.in-Some.is c.in_ok-values.ensures.within);
      refusal = search rules;
    }
