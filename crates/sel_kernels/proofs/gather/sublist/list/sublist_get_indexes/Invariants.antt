-- Loop invariant: the positions for the lists so far, 0 if there is none, and whether there is one.
use Rattle.sel_kernels.proofs.Common.{◌≡◌, map, range_with_len, child_place, is_some, unwrap_or}
use Rattle.sel_kernels.proofs.gather.sublist.list.sublist_get_indexes.Given as goal

abbrev pub invariant-loop-k : goal.invariant-loop-k
invariant-loop-k l =
    (l.values.items ≡ map (λ p. unwrap_or p 0) (map (child_place l.arr.offsets l.arr.validity l.index) (range_with_len 0 l.k)))
    × (l.validity ≡ map is_some (map (child_place l.arr.offsets l.arr.validity l.index) (range_with_len 0 l.k)))
