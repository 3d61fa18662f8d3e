-- Loop invariant: the entries and the offsets so far, and the rows that are left.
use Rattle.std.proofs.Common.{◌≡◌, take, drop}
use Rattle.sel_text.proofs.{Common.Null, Common.item_value, Common.rows_read, Common.entries_in, Common.all_items, Common.left, OffsetsBelow.Holds}
use Rattle.sel_text.proofs.build.entries_between.Given as goal

abbrev pub invariant-loop : goal.invariant-loop
invariant-loop l = (left l.rows ≡ drop l.counter (all_items l.items)) × (item_value l.null ≡ Null → Holds (entries_in l.beneath) (rows_read (take l.counter (all_items l.items))) (rows_read l.entries.items) l.ends.items)
