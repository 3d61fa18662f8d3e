use Rattle.sel_gather.proofs.Common.{◌≡◌, ◌∙◌, true, ap, arith, length, rows, type_of, well_formed, Null, pick, joined_items, blocks_formed}
use Rattle.sel_gather.proofs.{ItemRuns.rows_of, Layouts.picked_blocks, Rebuilt.blocks_rebuilt, Rebuilt.blocks_fit, Walks.blocks_known}
use Rattle.sel_runs.proofs.RunLists.{length-pick}
use Rattle.sel_gather.proofs.Common.{of_fixed_size_list}
use Rattle.sel_gather.proofs.nested.blocks_over.Goals as goal

pub gather_validity-requires-clause-known : goal.gather_validity-requires-clause-known
gather_validity-requires-clause-known g c = blocks_known (type_of c.args.values) c.args.size c.args.sources.now c.requires.lists

pub returns-clause-rows : goal.returns-clause-rows
returns-clause-rows g c =
    let ps = g.P.Plan.picks c.args.plan.now in
    let vs = pick Null (rows_of c.args.sources.now) ps in
    let below : rows c.in_ok-values.values.value ≡ joined_items c.args.size vs = ap rows c.in_ok-values.ensures.ok ∙ c.requires.below in
    let long : length vs ≡ c.len-len.result = omega (arith, length-pick Null (rows_of c.args.sources.now) ps, c.len-len.ensures.len) in
    let bits = c.in_ok-validity.ensures.bits in
    blocks_rebuilt c.args.size vs (rows c.in_ok-values.values.value) c.in_ok-validity.validity c.len-len.result (picked_blocks c.args.sources.now (type_of c.args.values) c.args.size ps c.requires.lists c.requires.formed)
    long below (rw c.len-len.ensures.len bits)

pub returns-clause-formed : goal.returns-clause-formed
returns-clause-formed g c =
    let ps = g.P.Plan.picks c.args.plan.now in
    let vs = pick Null (rows_of c.args.sources.now) ps in
    let below : rows c.in_ok-values.values.value ≡ joined_items c.args.size vs = ap rows c.in_ok-values.ensures.ok ∙ c.requires.below in
    let formed : well_formed c.in_ok-values.values.value ≡ true = ap well_formed c.in_ok-values.ensures.ok ∙ c.requires.child in
    let long : length vs ≡ c.len-len.result = omega (arith, length-pick Null (rows_of c.args.sources.now) ps, c.len-len.ensures.len) in
    blocks_formed c.args.size c.len-len.result c.in_ok-values.values.value c.in_ok-validity.validity
    (blocks_fit c.args.size vs c.in_ok-values.values.value c.in_ok-validity.validity c.len-len.result (picked_blocks c.args.sources.now (type_of c.args.values) c.args.size ps c.requires.lists c.requires.formed)
    long (omega (arith, c.len-len.ensures.len, c.len-len.ensures.few)) c.requires.narrow below (rw c.len-len.ensures.len c.in_ok-validity.ensures.covers) formed)

pub returns-clause-dtype : goal.returns-clause-dtype
returns-clause-dtype g c = ap (λ x. of_fixed_size_list (type_of x) c.args.size) c.in_ok-values.ensures.ok
