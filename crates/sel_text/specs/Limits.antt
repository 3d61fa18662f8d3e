-- The size limits that rows exceed when a column is built from them.
use Rattle.std.specs.Prelude.{ℕ, ◌+◌, Bool, false, ◌||◌, List, [], ◌∷◌, map, length}
use Rattle.std.specs.Prelude.{replicate, slice_index_or, if◌then◌else◌, nat_le, nat_lt}
use Rattle.std.specs.List.{flat_map}
use Rattle.sel_bits.specs.Limits.{max_rows}
use Rattle.sel_arrow.specs.Rows.{rows}
use Rattle.sel_arrow.specs.Shape.{Shape, Shapes, no_shapes, next_shape, of_binary_view}
use Rattle.sel_arrow.specs.Shape.{of_utf8_view, of_large_list, of_fixed_size_list, of_struct}
use Rattle.sel_arrow.specs.Value.{Value, Null, Bytes, Items, Tuple, listed}
use Rattle.sel_text.specs.declared.build.NullSlots.{NullSlots}
use Rattle.sel_text.specs.declared.build.NullSlots.TheVariants.{Zeros, Others}

-- Whether a number exceeds 4,294,967,295, the limit of the rows of a column, of a list size and of
-- the bytes of a data buffer.
abbrev pub exceeds_max : ℕ → Bool
exceeds_max n = nat_lt max_rows n

-- The child rows of a list row: its entries. A null row has none, or a single null if null slots
-- hold other values than zeros.
abbrev pub entries_in : NullSlots → Value → List Value
entries_in beneath (Items entries) = listed entries
entries_in Zeros value = []
entries_in Others value = Null ∷ []

-- The child rows of a fixed-size list row: its entries, or as many nulls for a null row (Arrow
-- columnar format: fixed-size list layout).
abbrev pub block_in : ℕ → Value → List Value
block_in size (Items entries) = listed entries
block_in size value = replicate size Null

-- The value of a field of a struct row; null for a null row (Arrow columnar format: struct layout).
abbrev pub part_in : ℕ → Value → Value
part_in place (Tuple entries) = slice_index_or (listed entries) place Null
part_in place value = Null

-- The number of bytes of a row in a data buffer of views: all of them if there are more than 12,
-- else 0 (Arrow columnar format: variable-size binary view layout).
abbrev pub bytes_placed : Value → ℕ
bytes_placed (Bytes bytes) = if nat_le (length bytes) 12 then 0 else length bytes
bytes_placed value = 0

-- The number of bytes of all rows in a data buffer of views.
abbrev pub all_placed_bytes : List Value → ℕ
all_placed_bytes [] = 0
all_placed_bytes (row ∷ rows) = bytes_placed row + all_placed_bytes rows

abbrev mutual
  -- Whether rows of a type exceed a limit: there are too many rows, here or at some depth, a list
  -- size is too large, or views need more bytes than a data buffer can have.
  pub exceeds_limit : NullSlots → Shape → List Value → Bool
  exceeds_limit beneath of_binary_view rows =
      exceeds_max (length rows) || exceeds_max (all_placed_bytes rows)
  exceeds_limit beneath of_utf8_view rows =
      exceeds_max (length rows) || exceeds_max (all_placed_bytes rows)
  exceeds_limit beneath (of_large_list shape) rows =
      exceeds_max (length rows) || exceeds_limit beneath shape (flat_map (entries_in beneath) rows)
  exceeds_limit beneath (of_fixed_size_list shape size) rows =
      exceeds_max (length rows) || exceeds_max size
      || exceeds_limit beneath shape (flat_map (block_in size) rows)
  exceeds_limit beneath (of_struct shapes) rows =
      exceeds_max (length rows) || any_exceeds_limit beneath shapes 0 rows
  exceeds_limit beneath shape rows = exceeds_max (length rows)

  -- Whether the values of some field of struct rows exceed a limit, from field `place` on.
  pub any_exceeds_limit : NullSlots → Shapes → ℕ → List Value → Bool
  any_exceeds_limit beneath no_shapes place rows = false
  any_exceeds_limit beneath (next_shape shape shapes) place rows =
      exceeds_limit beneath shape (map (part_in place) rows)
      || any_exceeds_limit beneath shapes (place + 1) rows
