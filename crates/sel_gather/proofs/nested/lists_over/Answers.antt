use Rattle.sel_gather.proofs.Common.{◌≡◌, ◌∙◌, ◌∷◌, true, ap, sym, length, arith, rows, type_of, well_formed, Null, lists_formed, joined_items, item_ends, pick}
use Rattle.std.specs.Prelude.{ℤ}
use Rattle.sel_gather.proofs.{ItemRuns.rows_of, JoinedRows.offsets_of, JoinedRows.same_numbers, JoinedRows.map_same, Layouts.picked_lists, Rebuilt.rising_ends}
use Rattle.sel_gather.proofs.{Rebuilt.lists_rebuilt, Rebuilt.lists_fit, Walks.lists_known}
use Rattle.sel_runs.proofs.RunLists.{length-pick}
use Rattle.sel_gather.proofs.Common.{of_large_list}
use Rattle.sel_gather.proofs.nested.lists_over.Goals as goal

pub offsets_and_validity-requires-clause-rising : goal.offsets_and_validity-requires-clause-rising
offsets_and_validity-requires-clause-rising g c =
    let vs = pick Null (rows_of c.args.sources.now) (g.P.Plan.picks c.args.plan.now) in
    offsets_of (λ (x : ℤ). x) c.args.ends.items (0 ∷ item_ends 0 vs) (map_same c.args.ends.items ∙ c.requires.ends) (rising_ends vs)

pub offsets_and_validity-requires-clause-known : goal.offsets_and_validity-requires-clause-known
offsets_and_validity-requires-clause-known g c = lists_known (type_of c.args.values) c.args.sources.now c.requires.lists

pub returns-clause-rows : goal.returns-clause-rows
returns-clause-rows g c =
    let cs = c.args.sources.now in
    let ps = g.P.Plan.picks c.args.plan.now in
    let vs = pick Null (rows_of cs) ps in
    let below : rows c.in_ok-values.values.value ≡ joined_items 0 vs = ap rows c.in_ok-values.ensures.ok ∙ c.requires.below in
    let offsets : c.in_ok-offsets.offsets ≡ 0 ∷ item_ends 0 vs = same_numbers c.in_ok-offsets.offsets (0 ∷ item_ends 0 vs) (sym c.in_ok-offsets.ensures.offsets ∙ map_same c.args.ends.items ∙ c.requires.ends) in
    lists_rebuilt vs c.in_ok-offsets.offsets (rows c.in_ok-values.values.value) c.in_ok-offsets.validity (length ps) (picked_lists cs (type_of c.args.values) ps c.requires.lists) (length-pick Null (rows_of cs) ps) offsets below c.in_ok-offsets.ensures.bits

pub returns-clause-formed : goal.returns-clause-formed
returns-clause-formed g c =
    let cs = c.args.sources.now in
    let ps = g.P.Plan.picks c.args.plan.now in
    let vs = pick Null (rows_of cs) ps in
    let below : rows c.in_ok-values.values.value ≡ joined_items 0 vs = ap rows c.in_ok-values.ensures.ok ∙ c.requires.below in
    let formed : well_formed c.in_ok-values.values.value ≡ true = ap well_formed c.in_ok-values.ensures.ok ∙ c.requires.child in
    let offsets : c.in_ok-offsets.offsets ≡ 0 ∷ item_ends 0 vs = same_numbers c.in_ok-offsets.offsets (0 ∷ item_ends 0 vs) (sym c.in_ok-offsets.ensures.offsets ∙ map_same c.args.ends.items ∙ c.requires.ends) in
    lists_formed c.in_ok-offsets.offsets c.in_ok-values.values.value c.in_ok-offsets.validity
    (lists_fit vs c.in_ok-offsets.offsets c.in_ok-values.values.value c.in_ok-offsets.validity (length ps) (length-pick Null (rows_of cs) ps) (omega (arith, c.len-len.ensures.len, c.len-len.ensures.few)) offsets below c.in_ok-offsets.ensures.covers formed)

pub returns-clause-dtype : goal.returns-clause-dtype
returns-clause-dtype g c = ap (λ x. of_large_list (type_of x)) c.in_ok-values.ensures.ok
