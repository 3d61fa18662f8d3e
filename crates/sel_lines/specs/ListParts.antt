-- How parsed lists are stored. Internal to the program; the contract of `run` does not depend on
-- these definitions.
use Rattle.std.specs.Prelude.{◌≡◌, ◌≤◌, ℕ, ℤ, ⊤, List, [], ◌∷◌, map, pos, length, slice_index_or}
use Rattle.std.specs.Prelude.{Option, None, Some}
use Rattle.sel_arrow.specs.Masked.{hidden}
use Rattle.sel_arrow.specs.Nested.{list_of}
use Rattle.sel_arrow.specs.Value.{Value, Null, Number, Items, validities}
use Rattle.sel_gather.specs.Children.{joined_items}
use Rattle.sel_gather.specs.Ends.{item_ends}
use Rattle.sel_lines.specs.declared.lists.Lists.{Lists}
use Rattle.sel_lines.specs.declared.rows.Rows.{Rows}
use Rattle.sel_bits.specs.Limits.{max_rows}
use Rattle.sel_lines.specs.Rows.{parsed_rows}

-- Optional items as a row: a list, or null.
abbrev pub shown_list : Option (Rows ℤ) → Value
shown_list None = Null
shown_list (Some items) = list_of (parsed_rows Number items)

-- The row is null or a list.
abbrev pub IsListRow : Value → Type 0
IsListRow Null = ⊤
IsListRow (Items items) = ⊤
IsListRow _ = ⊥

-- The parts that store these rows: their items, concatenated, with one flag for each item, their
-- offsets and their validity; each row is null or a list.
pub record HasRead (read : List Value) (lists : Lists) : Type 0 where
  pub items : hidden lists.flags.items (map Number lists.values.items) ≡ joined_items 0 read
  pub flags : length lists.flags.items ≡ length lists.values.items
  pub ends : lists.ends.items ≡ map pos (0 ∷ item_ends 0 read)
  pub valid : lists.validity.items ≡ validities read
  pub listed : (k : ℕ) → IsListRow (slice_index_or read k Null)

-- The parts store these rows, or both are none.
abbrev pub IsReading : Option (List Value) → Option Lists → Type 0
IsReading rows None = None ≡ rows
IsReading rows (Some lists) = (read : List Value) × (rows ≡ Some read) × HasRead read lists

-- The numbers of rows and of child rows do not exceed the limit of a column.
pub record AreFew (read below : List Value) : Type 0 where
  pub rows : length read ≤ max_rows
  pub items : length below ≤ max_rows

-- The parts store rows that a list column can have.
abbrev pub AreKept : Lists → Type 0
AreKept lists = (read : List Value) × HasRead read lists × AreFew read (joined_items 0 read)
