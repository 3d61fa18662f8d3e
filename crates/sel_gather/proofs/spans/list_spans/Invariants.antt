-- The starts and the ends of the lists so far.
use Rattle.sel_gather.proofs.Common.{◌≡◌, ◌∷◌, ◌+◌, ◌≤◌, vec_len, vec_capacity, length, map, take, drop, pos, Null, joined_items, item_ends, pick}
use Rattle.sel_gather.{specs.Spans.AreStarts, proofs.ItemRuns.rows_of}
use Rattle.sel_gather.proofs.spans.list_spans.Given as goal

abbrev pub invariant-loop-k : goal.invariant-loop-k
invariant-loop-k g l = record {
  rest : g.P.Plan.picks l.rest ≡ drop l.k (g.P.Plan.picks l.plan);
  count : l.end ≡ length (joined_items 0 (pick Null (rows_of l.sources) (take l.k (g.P.Plan.picks l.plan))));
  starts : AreStarts l.sources (take l.k (g.P.Plan.picks l.plan)) l.starts.items;
  ends : l.ends.items ≡ map pos (0 ∷ item_ends 0 (pick Null (rows_of l.sources) (take l.k (g.P.Plan.picks l.plan))));
  starts_count : vec_len l.starts ≡ l.k;
  starts_room : l.len ≤ vec_capacity l.starts;
  ends_count : vec_len l.ends ≡ l.k + 1;
  ends_room : l.len + 1 ≤ vec_capacity l.ends;
}
