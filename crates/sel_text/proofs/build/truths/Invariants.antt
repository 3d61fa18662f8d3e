-- Loop invariant: the booleans of the rows so far, and the rows that are left.
use Rattle.std.proofs.Common.{◌≡◌, map, take, drop}
use Rattle.sel_text.proofs.Common.{item_value, bool_stored, all_items, left}
use Rattle.sel_text.proofs.build.truths.Given as goal

abbrev pub invariant-loop : goal.invariant-loop
invariant-loop l = (left l.rows ≡ drop l.counter (all_items l.items)) × (l.values.items ≡ map (λ item. bool_stored l.beneath (item_value item.now)) (take l.counter (all_items l.items)))
