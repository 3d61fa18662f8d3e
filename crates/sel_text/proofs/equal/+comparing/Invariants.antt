-- Loop invariant: the rows so far are equal.
use Rattle.std.proofs.Common.{◌≡◌, take, drop, map, slice_index_or}
use Rattle.sel_text.proofs.Common.{rows, Null}
use Rattle.sel_text.proofs.equal.+comparing.Given as goal

abbrev pub invariant-equal_items-loop-k : goal.invariant-equal_items-loop-k
invariant-equal_items-loop-k l = take l.k (drop l.start (rows l.column)) ≡ take l.k (drop l.from (rows l.other))

abbrev pub invariant-equal_parts-loop-k : goal.invariant-equal_parts-loop-k
invariant-equal_parts-loop-k l =
    map (λ field. slice_index_or (rows field) l.place Null) (take l.k l.fields) ≡ map (λ field. slice_index_or (rows field) l.at Null) (take l.k l.others)
