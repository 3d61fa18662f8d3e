use Rattle.sel_gather.proofs.{Common.◌≡◌, Common.arith, ItemPicks.items_picked_all, ItemPicks.items_shown}
use Rattle.sel_gather.proofs.item_runs.ItemRunsRuns.has_nulls.Goals as goal

pub returns-else-has_nulls : goal.returns-else-has_nulls
returns-else-has_nulls g c =
    let runs = c.args.self.now in
    λ none. items_shown runs.sources.now runs.width (g.P.Plan.picks runs.lists) runs.listing runs.formed (c.has_validity.ensures none) runs.fits (c.has_nulls.ensures c.if-has_nulls.false)

pub returns-else-self-ne0 : goal.returns-else-self-ne0
returns-else-self-ne0 g c =
    let runs = c.args.self.now in
    let zero : runs.width ≡ 0 = omega (arith, c.if-self-ne0.false) in
    λ _. rw zero (items_picked_all runs.sources.now (g.P.Plan.picks runs.lists))
