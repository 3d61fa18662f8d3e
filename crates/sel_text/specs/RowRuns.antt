-- Rows that a column is built of, with repeated rows.
use Rattle.std.specs.Prelude.{ℕ, zero, suc, List, [], ◌++◌, drop, replicate}
use Rattle.std.specs.Borrow.{Bor}
use Rattle.std.specs.List.{flat_map}
use Rattle.sel_arrow.specs.Value.{Value}
use Rattle.sel_text.specs.ItemValues.{rows_read}
use Rattle.sel_text.specs.declared.item.Item.{Item}
use Rattle.sel_text.specs.declared.row_runs.RowRun.{RowRun}
use Rattle.sel_text.specs.declared.row_runs.RowWalk.{RowWalk}

-- Each item as often as it is repeated.
abbrev pub all_items : List RowRun → List (Bor Item)
all_items runs = flat_map (λ run. replicate run.times run.item) runs

-- The rows, in order.
abbrev pub rows_repeated : List RowRun → List Value
rows_repeated runs = rows_read (all_items runs)

-- The items that an iterator has left.
abbrev pub left : RowWalk → List (Bor Item)
left walk = drop walk.used (all_items walk.runs.now)

-- The list, n times, concatenated.
abbrev pub repeated : {A : Type 0} → ℕ → List A → List A
repeated zero xs = []
repeated (suc n) xs = repeated n xs ++ xs
