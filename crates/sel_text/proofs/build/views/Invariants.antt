-- Loop invariant: the views and the data buffer of the rows so far, and the rows that are left.
use Rattle.std.proofs.Common.{◌≡◌, take, drop, length, ◌≤◌}
use Rattle.sel_text.proofs.{Common.max_rows, Common.all_items, Common.left, BuiltViews.Views, Shown.stored_bytes}
use Rattle.sel_text.proofs.build.views.Given as goal

abbrev pub invariant-loop : goal.invariant-loop
invariant-loop l = record {
  rows : left l.rows ≡ drop l.counter (all_items l.items);
  views : Views l.data.items l.views.items (stored_bytes l.beneath (take l.counter (all_items l.items)));
  few : length l.data.items ≤ max_rows;
}
