-- Each recursive call has a smaller type; the fields so far are collected.
use Rattle.sel_gather.proofs.Common.{◌≡◌, ℕ, ◌+◌, ◌*◌, ◌<◌, All, map, take, get_or, rows, type_of, IsField, of_null, shapes_of, Null, field, part_at, parts_of}
use Rattle.sel_gather.proofs.Common.{pick, ExceedsNone, exceeded_taken, expand, columns_of, picked}
use Rattle.sel_gather.proofs.{Depths.size_of, Depths.sizes_of, ItemRuns.rows_of}
use Rattle.sel_gather.proofs.copy.+collecting.Given as goal

abbrev pub decreases-collect_like : goal.decreases-collect_like
decreases-collect_like l = 4 * size_of (type_of l.first.now) + 1

abbrev pub decreases-collect_lists : goal.decreases-collect_lists
decreases-collect_lists l = 4 * size_of (type_of l.child.now) + 4

abbrev pub decreases-collect_children : goal.decreases-collect_children
decreases-collect_children l = 4 * size_of (type_of l.first.now) + 2

abbrev pub decreases-collect_blocks : goal.decreases-collect_blocks
decreases-collect_blocks l = 4 * size_of (type_of l.child.now) + 4

abbrev pub decreases-collect_items : goal.decreases-collect_items
decreases-collect_items l = 4 * size_of (type_of l.first.now) + 3

abbrev pub decreases-collect_structs : goal.decreases-collect_structs
decreases-collect_structs l = 4 * sizes_of (shapes_of (map type_of l.firsts.now)) + 3

abbrev pub decreases-collect_fields : goal.decreases-collect_fields
decreases-collect_fields l = 4 * sizes_of (shapes_of (map type_of l.firsts.now)) + 2

abbrev pub invariant-collect_fields-loop-j : goal.invariant-collect_fields-loop-j
invariant-collect_fields-loop-j l = record {
  parts : map rows l.fields.items ≡ parts_of l.j (pick Null (rows_of l.sources) (expand l.runs));
  dtypes : map type_of l.fields.items ≡ map type_of (take l.j l.firsts);
  formed : All (IsField l.len) l.fields.items;
  within : (k : ℕ) → k < l.j → ExceedsNone (exceeded_taken (get_or (map type_of l.firsts) k of_null) (map (field k) (columns_of l.sources)) (map (part_at k) (picked l.sources l.runs)));
}
