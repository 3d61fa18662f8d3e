-- Types whose text can be parsed.
use Rattle.std.specs.Prelude.{Bool, true, ◌&&◌, nat_lt, ◌^◌}
use Rattle.sel_arrow.specs.Shape.{Shape, Shapes, no_shapes, next_shape, of_large_list}
use Rattle.sel_arrow.specs.Shape.{of_fixed_size_list, of_struct}

abbrev mutual
  -- Whether each list size in a type, at every depth, is an unsigned 64-bit integer.
  pub widths_written : Shape → Bool
  widths_written (of_large_list shape) = widths_written shape
  widths_written (of_fixed_size_list shape size) = nat_lt size (2 ^ 64) && widths_written shape
  widths_written (of_struct shapes) = all_widths_written shapes
  widths_written shape = true

  -- Whether each list size in each of several types is one.
  pub all_widths_written : Shapes → Bool
  all_widths_written no_shapes = true
  all_widths_written (next_shape shape shapes) = widths_written shape && all_widths_written shapes
