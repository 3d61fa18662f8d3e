-- The ends and the child rows of the lists so far.
use Rattle.sel_gather.proofs.Common.{◌≡◌, ◌≤◌, ◌-◌, ◌∷◌, ◌++◌, [], All, length, map, take, drop, pos, Null, joined_items, item_ends, pick, PickFits, expand}
use Rattle.sel_gather.proofs.ItemRuns.{rows_of, below_of}
use Rattle.sel_gather.proofs.list_walk.walk_lists.Given as goal

abbrev pub invariant-loop-at : goal.invariant-loop-at
invariant-loop-at g l = record {
  rest : g.P.Plan.picks l.rest ≡ drop l.at (g.P.Plan.picks l.plan);
  within : l.at ≤ l.len;
  count : l.end ≡ length (joined_items 0 (pick Null (rows_of l.sources) (take l.at (g.P.Plan.picks l.plan))));
  ends : l.ends.items ≡ map pos (0 ∷ item_ends 0 (pick Null (rows_of l.sources) (take l.at (g.P.Plan.picks l.plan))));
  items : pick Null (below_of l.sources) (expand (l.below.items ++ l.last ∷ [])) ≡ joined_items 0 (pick Null (rows_of l.sources) (take l.at (g.P.Plan.picks l.plan)));
  sound : All (PickFits (below_of l.sources)) (expand (l.below.items ++ l.last ∷ []));
}

abbrev pub decreases-loop-at : goal.decreases-loop-at
decreases-loop-at g l = l.len - l.at
