-- The element types and sizes of lists.
use Rattle.std.specs.Prelude.{ℕ}
use Rattle.sel_arrow.specs.Shape.{Shape, of_null, of_large_list, of_fixed_size_list}

-- The element type of lists (Arrow columnar format: list layouts).
abbrev pub entry_type : Shape → Shape
entry_type (of_large_list shape) = shape
entry_type (of_fixed_size_list shape width) = shape
entry_type shape = of_null

-- The list size of fixed-size lists (Arrow columnar format: fixed-size list layout).
abbrev pub width_of : Shape → ℕ
width_of (of_fixed_size_list shape width) = width
width_of shape = 0
