-- The true and false values of an if-then-else of lists, and the child rows that its result needs.
use Rattle.std.specs.Prelude.{List, [], ◌∷◌, length, ◌⊎◌}
use Rattle.sel_bits.specs.declared.faults.Limit.{Limit}
use Rattle.sel_bits.specs.declared.native.NativeType.{Ghosts}
use Rattle.sel_arrow.specs.Shape.{Shape, of_large_list, of_fixed_size_list}
use Rattle.sel_arrow.specs.Value.{Value}
use Rattle.sel_arrow.specs.declared.array_ref.ArrayRef.{ArrayRef}
use Rattle.sel_arrow.specs.declared.column.Column.{Column}
use Rattle.sel_arrow.specs.declared.fixed_size_list.FixedSizeListArray.{FixedSizeListArray}
use Rattle.sel_arrow.specs.declared.list.ListArray.{ListArray}
use Rattle.sel_gather.specs.Children.{joined_items}
use Rattle.sel_gather.specs.Need.{ExceedsRows, exceeded_taken}
use Rattle.sel_ternary.specs.Sides.{Side, column, scalar, exceeded_flat}

-- The child of a list column (Arrow columnar format: variable-size list layout).
abbrev pub list_child : {O : Type 0} {type : Ghosts O} → ListArray O type → Column
list_child array = array.values.value

-- The child of a fixed-size list column (Arrow columnar format: fixed-size list layout).
abbrev pub block_child : FixedSizeListArray → Column
block_child array = array.values.value

-- The column that has the entries of the lists: the child of a list column, or the rows of a scalar
-- list (Arrow columnar format: list layouts).
abbrev pub below : {C : Type 0} → (C → Column) → Side C ArrayRef → Column
below child (column c) = child c
below child (scalar s) = s.column

-- The limits that rows of this type exceed if they are gathered from these columns: there are too
-- many of them, or they need too much.
abbrev pub exceeded_held : Shape → List Column → List Value → Limit → Type 0
exceeded_held s columns rows limit =
    ExceedsRows (length rows) limit ⊎ exceeded_taken s columns rows limit

-- The limits that the child rows of lists of this type exceed if they are gathered from these
-- columns.
abbrev pub exceeded_below : Shape → List Column → List Value → Limit → Type 0
exceeded_below (of_large_list s) columns rows limit =
    exceeded_held s columns (joined_items 0 rows) limit
exceeded_below (of_fixed_size_list s width) columns rows limit =
    exceeded_held s columns (joined_items width rows) limit
exceeded_below s columns rows limit = ⊥

-- The limits that an if-then-else of lists with this type and these rows exceeds: it has too many
-- rows, or its child rows exceed a limit.
abbrev pub exceeded_lists : {C : Type 0} → (C → Column) → Shape → Side C ArrayRef
    → Side C ArrayRef →
    List Value → Limit → Type 0
exceeded_lists child type if_true if_false rows limit =
    exceeded_flat if_true if_false rows limit
    ⊎ exceeded_below type (below child if_true ∷ below child if_false ∷ []) rows limit
