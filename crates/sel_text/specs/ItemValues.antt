-- The values of parsed rows.
use Rattle.std.specs.Prelude.{List, map}
use Rattle.std.specs.Borrow.{Bor}
use Rattle.sel_arrow.specs.Value.{Value, Null, Truth, Number, Bytes, Items, Tuple, Values}
use Rattle.sel_arrow.specs.Value.{no_values, next_value}
use Rattle.sel_text.specs.Cells.{whole_number}
use Rattle.sel_text.specs.declared.item.Item.{Item, Row_of-Item, end_of-Item, more_of-Item}
use Rattle.sel_text.specs.declared.item.Item.TheVariants.{Null as NullItem, Truth as TruthItem}
use Rattle.sel_text.specs.declared.item.Item.TheVariants.{Number as NumberItem, Bytes as BytesItem}
use Rattle.sel_text.specs.declared.item.Item.TheVariants.{Items', Parts'}

abbrev mutual
  -- The row that was parsed.
  pub item_value : Item → Value
  item_value NullItem = Null
  item_value (TruthItem truth) = Truth truth
  item_value (NumberItem whole) = Number (whole_number whole)
  item_value (BytesItem bytes) = Bytes bytes.items
  item_value (Items' n items) = Items (values_read items)
  item_value (Parts' n parts) = Tuple (values_read parts)

  -- The entries of a list, or the field values of a struct, that were parsed.
  pub values_read : {n : _} → Row_of-Item n → Values
  values_read end_of-Item = no_values
  values_read (more_of-Item item items) = next_value (item_value item) (values_read items)

-- The parsed rows, in order.
abbrev pub rows_read : List (Bor Item) → List Value
rows_read items = map (λ item. item_value item.now) items
