-- How deeply a type is nested.
use Rattle.std.specs.Prelude.{ℕ, ◌+◌, max}
use Rattle.sel_arrow.specs.Shape.{Shape, Shapes, no_shapes, next_shape, of_large_list}
use Rattle.sel_arrow.specs.Shape.{of_fixed_size_list, of_struct}

abbrev mutual
  -- The nesting depth of a type: the number of types with children on the longest path.
  pub depth : Shape → ℕ
  depth (of_large_list shape) = depth shape + 1
  depth (of_fixed_size_list shape size) = depth shape + 1
  depth (of_struct shapes) = deepest shapes + 1
  depth shape = 0

  -- The greatest nesting depth of several types; 0 if there are none.
  pub deepest : Shapes → ℕ
  deepest no_shapes = 0
  deepest (next_shape shape shapes) = max (depth shape) (deepest shapes)
