-- Offsets, bytes, views and data buffers of columns.
use Rattle.std.specs.Prelude.{ℕ, List, Option, None, Some}
use Rattle.std.specs.Option.{option_map}
use Rattle.sel_arrow.specs.declared.binview.BinaryViewArray.{BinaryViewArray}
use Rattle.sel_arrow.specs.declared.column.Column.{Column}
use Rattle.sel_arrow.specs.declared.view.View.{View}
use Rattle.sel_arrow.specs.declared.column.Column.TheVariants.{LargeBinary, BinaryView, Utf8View}
use Rattle.sel_arrow.specs.declared.column.Column.TheVariants.{LargeList'}
use Rattle.sel_ffi.specs.Held.{Held}

-- The offsets of binary, or of lists with 64-bit offsets (Arrow columnar format: variable-size
-- layouts).
abbrev pub offsets_in : Column → Option (List ℕ)
offsets_in (LargeBinary column) = Some column.offsets
offsets_in (LargeList' offsets p values validity) = Some offsets
offsets_in column = None

-- The bytes that offsets point into (Arrow columnar format: variable-size binary layout).
abbrev pub bytes_in : Column → Option (List ℕ)
bytes_in (LargeBinary column) = Some column.values
bytes_in column = None

-- The views and data buffers of binary or string views (Arrow columnar format: variable-size binary
-- view layout).
abbrev pub views_of : Column → Option BinaryViewArray
views_of (BinaryView column) = Some column
views_of (Utf8View column) = Some column.bytes
views_of column = None

-- The views, and the data buffers, of a handle's column (Arrow columnar format: variable-size
-- binary view layout).
abbrev pub held_views : Held → Option (List View)
held_views None = None
held_views (Some column) = option_map (λ array. array.views) (views_of column.column)

abbrev pub held_buffers : Held → Option (List (List ℕ))
held_buffers None = None
held_buffers (Some column) = option_map (λ array. array.buffers) (views_of column.column)

-- The offsets, and the bytes, of a handle's column.
abbrev pub held_offsets : Held → Option (List ℕ)
held_offsets None = None
held_offsets (Some column) = offsets_in column.column

abbrev pub held_bytes : Held → Option (List ℕ)
held_bytes None = None
held_bytes (Some column) = bytes_in column.column
