-- What rows need in each column of their type's tree, and the limits of it.
use Rattle.std.specs.Prelude.{ℕ, ◌+◌, ◌≤◌, ⊤, List, [], ◌∷◌, ◌++◌, length, map}
use Rattle.sel_bits.specs.Limits.{max_rows}
use Rattle.sel_arrow.specs.Shape.{Shape, Shapes, no_shapes, next_shape, of_large_binary}
use Rattle.sel_arrow.specs.Shape.{of_large_list, of_fixed_size_list, of_struct}
use Rattle.sel_arrow.specs.Value.{Value}
use Rattle.sel_gather.specs.Children.{joined_items, part_at}
pub use Rattle.sel_gather.specs.Need.{byte_count, bytes_needed, IsLimitOrMemory, ExceedsNone}
pub use Rattle.sel_gather.specs.Need.{ExceedsBytes, ExceedsRows, exceeded_limits, exceeded_in_parts}

-- The need of one column: a number of rows, or a number of bytes.
pub data Needed : Type 0 where
  so_many_rows : ℕ → Needed
  so_many_bytes : ℕ → Needed

abbrev mutual
  -- The needs of rows, for each column of their type's tree: the number of rows, for LargeBinary
  -- also the number of bytes, and the needs of the child rows. A null list has no child rows, a
  -- null fixed-size list has as many null ones as its size, and a null struct has one null in each
  -- field.
  pub need : Shape → List Value → List Needed
  need of_large_binary rows = so_many_rows (length rows) ∷ so_many_bytes (bytes_needed rows) ∷ []
  need (of_large_list s) rows = so_many_rows (length rows) ∷ need s (joined_items 0 rows)
  need (of_fixed_size_list s width) rows =
      so_many_rows (length rows) ∷ need s (joined_items width rows)
  need (of_struct ss) rows = so_many_rows (length rows) ∷ need_of_parts ss 0 rows
  need s rows = so_many_rows (length rows) ∷ []

  -- The needs of the fields of struct rows, from field j on.
  pub need_of_parts : Shapes → ℕ → List Value → List Needed
  need_of_parts no_shapes j rows = []
  need_of_parts (next_shape s ss) j rows =
      need s (map (part_at j) rows) ++ need_of_parts ss (j + 1) rows

-- Both have the same form, and no number of the first is greater than the number at its position in
-- the second.
abbrev pub NoneGreater : List Needed → List Needed → Type 0
NoneGreater [] [] = ⊤
NoneGreater (so_many_rows m ∷ ms) (so_many_rows n ∷ ns) = (m ≤ n) × NoneGreater ms ns
NoneGreater (so_many_bytes m ∷ ms) (so_many_bytes n ∷ ns) = (m ≤ n) × NoneGreater ms ns
NoneGreater _ _ = ⊥

-- No number exceeds its limit: 2^32 - 1 rows, or 2^63 - 1 bytes, the greatest offset.
abbrev pub NoneAbove : List Needed → Type 0
NoneAbove [] = ⊤
NoneAbove (so_many_rows n ∷ ns) = (n ≤ max_rows) × NoneAbove ns
NoneAbove (so_many_bytes n ∷ ns) = (n ≤ 9223372036854775807) × NoneAbove ns
