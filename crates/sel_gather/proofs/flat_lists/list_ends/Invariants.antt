-- The ends of the lists so far.
use Rattle.sel_gather.proofs.Common.{◌≡◌, ◌∷◌, length, map, take, drop, pos, Null, joined_items, item_ends, pick}
use Rattle.sel_gather.proofs.ItemRuns.{rows_of}
use Rattle.sel_gather.proofs.flat_lists.list_ends.Given as goal

abbrev pub invariant-loop-k : goal.invariant-loop-k
invariant-loop-k g l = record {
  rest : g.P.Plan.picks l.rest ≡ drop l.k (g.P.Plan.picks l.plan);
  count : l.end ≡ length (joined_items 0 (pick Null (rows_of l.sources) (take l.k (g.P.Plan.picks l.plan))));
  ends : l.ends.items ≡ map pos (0 ∷ item_ends 0 (pick Null (rows_of l.sources) (take l.k (g.P.Plan.picks l.plan))));
}
