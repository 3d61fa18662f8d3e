-- Loop invariant: the numbers of the rows so far, and the rows that are left.
use Rattle.std.proofs.Common.{◌≡◌, true, map, take, drop}
use Rattle.sel_text.proofs.Common.{list_all, Number, fits, rows_read, ShowsRows, all_items, left, rows_repeated}
use Rattle.sel_text.proofs.build.numbers.Given as goal

abbrev pub invariant-loop : goal.invariant-loop
invariant-loop g l = (left l.rows ≡ drop l.counter (all_items l.items)) × (list_all (fits g.T.ArrowPrimitive.shape) (rows_repeated l.items) ≡ true → ShowsRows (rows_read (take l.counter (all_items l.items))) (map (λ x. Number (g.T.NativeType.number x)) l.values.items))
