use Rattle.sel_gather.proofs.Common.{◌∙◌, ◌∷◌, [], ap, arith, map, sym, type_of, items_at}
use Rattle.sel_gather.proofs.FlatItems.{again_fits, again_long, children_alike, children_fit, flat_collected}
use Rattle.sel_gather.proofs.{ItemPicks.fits_rows, ItemPicks.items_fit, ItemPicks.items_near, ItemRuns.rows_of, Walks.one_child, Walks.two_children}
use Rattle.sel_gather.proofs.flat_lists.gather_items.Goals as goal

pub invariant_of-items : goal.invariant_of-items
invariant_of-items g c =
    let cs = c.args.sources.now in
    let qs = g.P.Plan.picks c.again.result in
    let fits = again_fits (type_of c.args.first.now) cs c.requires.lists c.requires.alike c.requires.formed c.args.width (g.P.Plan.picks c.args.plan.now) qs c.again.ensures c.requires.fits in
    record { listing = c.requires.lists; formed = c.requires.formed; fits = fits_rows (rows_of cs) qs fits }

pub invariant_of-items-2 : goal.invariant_of-items-2
invariant_of-items-2 g c =
    let s = type_of c.args.first.now in
    let cs = c.args.sources.now in
    let w = c.args.width in
    let ps = g.P.Plan.picks c.args.plan.now in
    let qs = g.P.Plan.picks c.again.result in
    let fits = again_fits s cs c.requires.lists c.requires.alike c.requires.formed w ps qs c.again.ensures c.requires.fits in
    record {
      count = again_long s cs c.requires.lists c.requires.alike c.requires.formed w ps qs c.again.ensures c.requires.fits ∙ sym c.requires.need;
      few = c.requires.few;
      near = items_near cs c.requires.lists c.requires.formed (items_at cs w qs) (items_fit cs c.requires.lists c.requires.formed w qs fits);
    }

pub gather_flat-requires-clause-fits : goal.gather_flat-requires-clause-fits
gather_flat-requires-clause-fits g c =
    let s = type_of c.args.first.now in
    let cs = c.args.sources.now in
    let found = one_child cs c.only-item.result c.child_of.result (omega (arith, c.in-len1.len_at_least)) (omega (arith, c.in-len1.len_below)) c.only-item.is c.child_of.ensures in
    children_fit s cs c.requires.lists c.requires.alike c.requires.formed c.args.width (g.P.Plan.picks c.args.plan.now) (g.P.Plan.picks c.again.result) c.again.ensures c.requires.fits (c.child_of.result ∷ []) found

pub returns-in-len1 : goal.returns-in-len1
returns-in-len1 g c =
    let s = type_of c.args.first.now in
    let cs = c.args.sources.now in
    let found = one_child cs c.only-item.result c.child_of.result (omega (arith, c.in-len1.len_at_least)) (omega (arith, c.in-len1.len_below)) c.only-item.is c.child_of.ensures in
    flat_collected s cs c.requires.lists c.requires.alike c.requires.formed c.args.width (g.P.Plan.picks c.args.plan.now) (g.P.Plan.picks c.again.result) c.again.ensures c.requires.fits (c.child_of.result ∷ []) found c.gather_flat.result c.gather_flat.ensures

pub gather_flat-requires-in-len2-clause-alike : goal.gather_flat-requires-in-len2-clause-alike
gather_flat-requires-in-len2-clause-alike g c =
    let cs = c.args.sources.now in
    let found = two_children cs c.one-item.result c.other-item.result c.child_of-in-len2.result c.child_of-in-len2-2.result (omega (arith, c.in-len2.len_at_least)) (omega (arith, c.in-len2.len_below)) c.one-item.is c.other-item.is c.child_of-in-len2.ensures c.child_of-in-len2-2.ensures in
    children_alike (type_of c.args.first.now) cs c.requires.lists c.requires.alike c.requires.formed c.args.width (g.P.Plan.picks c.args.plan.now) (g.P.Plan.picks c.again.result) c.again.ensures c.requires.fits (c.child_of-in-len2.result ∷ c.child_of-in-len2-2.result ∷ []) found

pub gather_flat-requires-in-len2-clause-fits : goal.gather_flat-requires-in-len2-clause-fits
gather_flat-requires-in-len2-clause-fits g c =
    let cs = c.args.sources.now in
    let found = two_children cs c.one-item.result c.other-item.result c.child_of-in-len2.result c.child_of-in-len2-2.result (omega (arith, c.in-len2.len_at_least)) (omega (arith, c.in-len2.len_below)) c.one-item.is c.other-item.is c.child_of-in-len2.ensures c.child_of-in-len2-2.ensures in
    children_fit (type_of c.args.first.now) cs c.requires.lists c.requires.alike c.requires.formed c.args.width (g.P.Plan.picks c.args.plan.now) (g.P.Plan.picks c.again.result) c.again.ensures c.requires.fits (c.child_of-in-len2.result ∷ c.child_of-in-len2-2.result ∷ []) found

pub returns-in-len2 : goal.returns-in-len2
returns-in-len2 g c =
    let cs = c.args.sources.now in
    let found = two_children cs c.one-item.result c.other-item.result c.child_of-in-len2.result c.child_of-in-len2-2.result (omega (arith, c.in-len2.len_at_least)) (omega (arith, c.in-len2.len_below)) c.one-item.is c.other-item.is c.child_of-in-len2.ensures c.child_of-in-len2-2.ensures in
    flat_collected (type_of c.args.first.now) cs c.requires.lists c.requires.alike c.requires.formed c.args.width (g.P.Plan.picks c.args.plan.now) (g.P.Plan.picks c.again.result) c.again.ensures c.requires.fits (c.child_of-in-len2.result ∷ c.child_of-in-len2-2.result ∷ []) found c.gather_flat-in-len2.result c.gather_flat-in-len2.ensures

pub gather_flat-requires-2-clause-alike : goal.gather_flat-requires-2-clause-alike
gather_flat-requires-2-clause-alike g c =
    let found = ap (map (λ x. x.now)) c.deref.ensures.value ∙ c.in_ok-children.ensures.children in
    children_alike (type_of c.args.first.now) c.args.sources.now c.requires.lists c.requires.alike c.requires.formed c.args.width (g.P.Plan.picks c.args.plan.now) (g.P.Plan.picks c.again.result) c.again.ensures c.requires.fits c.deref.result.now found

pub gather_flat-requires-2-clause-fits : goal.gather_flat-requires-2-clause-fits
gather_flat-requires-2-clause-fits g c =
    let found = ap (map (λ x. x.now)) c.deref.ensures.value ∙ c.in_ok-children.ensures.children in
    children_fit (type_of c.args.first.now) c.args.sources.now c.requires.lists c.requires.alike c.requires.formed c.args.width (g.P.Plan.picks c.args.plan.now) (g.P.Plan.picks c.again.result) c.again.ensures c.requires.fits c.deref.result.now found

pub returns : goal.returns
returns g c =
    let found = ap (map (λ x. x.now)) c.deref.ensures.value ∙ c.in_ok-children.ensures.children in
    flat_collected (type_of c.args.first.now) c.args.sources.now c.requires.lists c.requires.alike c.requires.formed c.args.width (g.P.Plan.picks c.args.plan.now) (g.P.Plan.picks c.again.result) c.again.ensures c.requires.fits c.deref.result.now found c.gather_flat-2.result c.gather_flat-2.ensures
