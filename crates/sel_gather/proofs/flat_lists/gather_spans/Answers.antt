use Rattle.sel_gather.proofs.Common.{◌∙◌, ◌∷◌, [], All, ap, arith, length, refl, subst, sym, type_of, Null, items_at, pick, CollectsSome, columns_of, IsNear, PickFits}
use Rattle.sel_gather.proofs.{FlatItems.children_fit, FlatItems.flat_collected, ItemPicks.items_fit, ItemPicks.items_long, ItemPicks.items_near, ItemRuns.rows_of}
use Rattle.sel_gather.proofs.{ItemSpans.items_are, ItemSpans.last_rise, Walks.one_child}
use Rattle.sel_gather.proofs.flat_lists.gather_spans.Goals as goal

pub invariant_of-items : goal.invariant_of-items
invariant_of-items g c =
    let ps = g.P.Plan.picks c.args._plan.now in
    record { rising = last_rise c.args.sources.now c.requires.lists c.requires.formed ps c.args.starts.now c.args.ends.now c.requires.fits c.requires.starts c.requires.ends (omega (arith, c.requires.need, c.requires.few)) }

pub invariant_of-items-2 : goal.invariant_of-items-2
invariant_of-items-2 g c =
    let cs = c.args.sources.now in
    let ps = g.P.Plan.picks c.args._plan.now in
    let are = items_are cs c.requires.lists c.requires.formed ps c.args.starts.now c.args.ends.now c.requires.fits c.requires.starts c.requires.ends in
    record {
      count = ap length are ∙ items_long cs c.requires.lists c.requires.formed 0 ps c.requires.fits ∙ sym c.requires.need;
      few = c.requires.few;
      near = subst (All IsNear) (sym are) (items_near cs c.requires.lists c.requires.formed (items_at cs 0 ps) (items_fit cs c.requires.lists c.requires.formed 0 ps c.requires.fits));
    }

pub gather_flat-requires-clause-fits : goal.gather_flat-requires-clause-fits
gather_flat-requires-clause-fits g c =
    let s = type_of c.args.first.now in
    let cs = c.args.sources.now in
    let ps = g.P.Plan.picks c.args._plan.now in
    let found = one_child cs c.index-sources-0.result c.child_of.result (omega (arith, c.requires.one)) (omega (arith, c.requires.one)) c.index-sources-0.is c.child_of.ensures in
    let are = items_are cs c.requires.lists c.requires.formed ps c.args.starts.now c.args.ends.now c.requires.fits c.requires.starts c.requires.ends in
    subst (All (PickFits (rows_of (c.child_of.result ∷ [])))) (sym are) (children_fit s cs c.requires.lists c.requires.alike c.requires.formed 0 ps ps refl c.requires.fits (c.child_of.result ∷ []) found)

pub returns : goal.returns
returns g c =
    let s = type_of c.args.first.now in
    let cs = c.args.sources.now in
    let ps = g.P.Plan.picks c.args._plan.now in
    let found = one_child cs c.index-sources-0.result c.child_of.result (omega (arith, c.requires.one)) (omega (arith, c.requires.one)) c.index-sources-0.is c.child_of.ensures in
    let are = items_are cs c.requires.lists c.requires.formed ps c.args.starts.now c.args.ends.now c.requires.fits c.requires.starts c.requires.ends in
    let xs = c.child_of.result ∷ [] in
    flat_collected s cs c.requires.lists c.requires.alike c.requires.formed 0 ps ps refl c.requires.fits xs found c.gather_flat.result
    (subst (λ q. CollectsSome c.gather_flat.result s (columns_of xs) (pick Null (rows_of xs) q)) are c.gather_flat.ensures)
