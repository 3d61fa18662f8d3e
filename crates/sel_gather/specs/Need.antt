-- The limits that rows can exceed, and the errors for them.
use Rattle.std.specs.Prelude.{ℕ, ◌+◌, ◌<◌, ℤ, pos, ◌<ℤ◌, ⊤, ◌⊎◌, List, [], ◌∷◌, length, map}
use Rattle.sel_bits.specs.Limits.{max_buffers, max_rows}
use Rattle.sel_bits.specs.declared.faults.Limit.{Limit}
use Rattle.sel_bits.specs.declared.faults.Limit.TheVariants.{Rows as RowLimit, Bytes as ByteLimit}
use Rattle.sel_bits.specs.declared.faults.Limit.TheVariants.{Buffers as BufferLimit}
use Rattle.sel_bits.specs.declared.faults.PolarsError.{PolarsError}
use Rattle.sel_bits.specs.declared.faults.PolarsError.TheVariants.{OutOfMemory, SizeLimit}
use Rattle.sel_bits.specs.declared.faults.PolarsError.TheVariants.{ComputeError}
use Rattle.sel_arrow.specs.Shape.{Shape, Shapes, no_shapes, next_shape, of_large_binary}
use Rattle.sel_arrow.specs.Shape.{of_binary_view, of_utf8_view, of_large_list, of_fixed_size_list}
use Rattle.sel_arrow.specs.Shape.{of_struct}
use Rattle.sel_arrow.specs.Value.{Value, Bytes}
use Rattle.sel_arrow.specs.declared.column.Column.{Column}
use Rattle.sel_gather.specs.Children.{child, field, joined_items, part_at}
use Rattle.sel_arrow.specs.declared.column.Column.TheVariants.{BinaryView, Utf8View}

-- The number of bytes of a binary or string row; 0 for any other value, such as null.
abbrev pub byte_count : Value → ℕ
byte_count (Bytes bytes) = length bytes
byte_count _ = 0

-- The number of bytes of all rows, which a binary column needs for them.
abbrev pub bytes_needed : List Value → ℕ
bytes_needed [] = 0
bytes_needed (row ∷ rows) = byte_count row + bytes_needed rows

-- The error is out of memory or an exceeded limit.
abbrev pub IsLimitOrMemory : (Limit → Type 0) → PolarsError → Type 0
IsLimitOrMemory exceeded_limits OutOfMemory = ⊤
IsLimitOrMemory exceeded_limits (SizeLimit limit) = exceeded_limits limit
IsLimitOrMemory exceeded_limits ComputeError = ⊥

-- No limit is exceeded.
abbrev pub ExceedsNone : (Limit → Type 0) → Type 0
ExceedsNone exceeded_limits = (limit : Limit) → ¬ exceeded_limits limit

-- The only limit that binary rows can exceed: they need more bytes than the greatest offset.
abbrev pub ExceedsBytes : ℤ → List Value → Limit → Type 0
ExceedsBytes greatest rows ByteLimit = greatest <ℤ pos (bytes_needed rows)
ExceedsBytes greatest rows _ = ⊥

-- The number of data buffers of a view column; 0 for any other column (Arrow columnar format:
-- variable-size binary view layout).
abbrev pub buffer_count : Column → ℕ
buffer_count (BinaryView column) = length column.buffers
buffer_count (Utf8View column) = length column.bytes.buffers
buffer_count column = 0

-- The number of data buffers of all columns together.
abbrev pub buffers_joined : List Column → ℕ
buffers_joined [] = 0
buffers_joined (column ∷ columns) = buffer_count column + buffers_joined columns

-- The only limit that data buffers can exceed: there are more of them than a column can have.
abbrev pub ExceedsBuffers : ℕ → Limit → Type 0
ExceedsBuffers count BufferLimit = max_buffers < count
ExceedsBuffers count _ = ⊥

-- The only limit that rows can exceed by their number: there are more of them than a column can
-- have.
abbrev pub ExceedsRows : ℕ → Limit → Type 0
ExceedsRows count RowLimit = max_rows < count
ExceedsRows count _ = ⊥

abbrev mutual
  -- The limits that rows exceed in a column of this type: their own limits, and those of their
  -- values in child columns. A null list needs no child rows, a null fixed-size list as many as its
  -- list size, and a null struct row one row of each field. The limit of data buffers is not
  -- included.
  pub exceeded_limits : Shape → List Value → Limit → Type 0
  exceeded_limits of_large_binary rows limit = ExceedsBytes (pos 9223372036854775807) rows limit
  exceeded_limits (of_large_list s) rows limit =
      ExceedsRows (length (joined_items 0 rows)) limit
      ⊎ exceeded_limits s (joined_items 0 rows) limit
  exceeded_limits (of_fixed_size_list s width) rows limit =
      ExceedsRows (length (joined_items width rows)) limit
      ⊎ exceeded_limits s (joined_items width rows) limit
  exceeded_limits (of_struct ss) rows limit = exceeded_in_parts ss 0 rows limit
  exceeded_limits s rows limit = ⊥

  -- The same for the fields of struct values, from field j on.
  pub exceeded_in_parts : Shapes → ℕ → List Value → Limit → Type 0
  exceeded_in_parts no_shapes j rows limit = ⊥
  exceeded_in_parts (next_shape s ss) j rows limit =
      exceeded_limits s (map (part_at j) rows) limit ⊎ exceeded_in_parts ss (j + 1) rows limit

abbrev mutual
  -- The limits that rows exceed if they are gathered from columns of this type: their own limits,
  -- those of their values in child columns, and the limit of data buffers. A null list needs no
  -- child rows, a null fixed-size list as many as its list size, and a null struct row one row of
  -- each field.
  pub exceeded_taken : Shape → List Column → List Value → Limit → Type 0
  exceeded_taken of_large_binary columns rows limit =
      ExceedsBytes (pos 9223372036854775807) rows limit
  exceeded_taken of_binary_view columns rows limit = ExceedsBuffers (buffers_joined columns) limit
  exceeded_taken of_utf8_view columns rows limit = ExceedsBuffers (buffers_joined columns) limit
  exceeded_taken (of_large_list s) columns rows limit =
      ExceedsRows (length (joined_items 0 rows)) limit
      ⊎ exceeded_taken s (map child columns) (joined_items 0 rows) limit
  exceeded_taken (of_fixed_size_list s width) columns rows limit =
      ExceedsRows (length (joined_items width rows)) limit
      ⊎ exceeded_taken s (map child columns) (joined_items width rows) limit
  exceeded_taken (of_struct ss) columns rows limit = exceeded_in_fields ss 0 columns rows limit
  exceeded_taken s columns rows limit = ⊥

  -- The same for the fields, from field j on.
  pub exceeded_in_fields : Shapes → ℕ → List Column → List Value → Limit → Type 0
  exceeded_in_fields no_shapes j columns rows limit = ⊥
  exceeded_in_fields (next_shape s ss) j columns rows limit =
      exceeded_taken s (map (field j) columns) (map (part_at j) rows) limit
      ⊎ exceeded_in_fields ss (j + 1) columns rows limit
