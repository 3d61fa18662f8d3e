-- What the calls for dictionaries guarantee.
use Rattle.std.specs.Prelude.{◌≡◌, ◌++◌, ℕ, List, [], ◌∷◌, length, IsTrue}
use Rattle.sel_arrow.specs.Rows.{rows, type_of}
use Rattle.sel_arrow.specs.Shape.{of_uint32, of_utf8_view}
use Rattle.sel_arrow.specs.Value.{Value}
use Rattle.sel_ffi.specs.Held.{Held}
use Rattle.sel_ffi.specs.Status.{ok, no_column, unsupported_type, index_out_of_bounds}
use Rattle.sel_ffi.specs.Status.{held_rows, held_type, HasColumn, Makes, ReturnsFirst}
use Rattle.sel_kernels.specs.Dictionary.{propagated_keys, valid_values}
use Rattle.sel_kernels.specs.Pick.{all_within}

-- Keys of null values become null, and null values are dropped. The bounds of the keys are checked
-- after the conditions.
pub record Propagates (code : ℕ) (old_keys old_values : List Value) (conditions : List (ℕ × Type 0))
    (keys_before keys_after values_before values_after : Held) : Type 0 where
  pub keys : Makes code keys_before keys_after
      (λ made. rows made.column ≡ propagated_keys old_keys old_values)
  pub values : Makes code values_before values_after
      (λ made. rows made.column ≡ valid_values old_values)
  pub key_dtype : Makes code keys_before keys_after (λ made. type_of made.column ≡ of_uint32)
  pub value_dtype : Makes code values_before values_after
      (λ made. type_of made.column ≡ of_utf8_view)
  pub checks : ReturnsFirst code
      (conditions ++ (index_out_of_bounds, IsTrue (all_within (length old_values) old_keys)) ∷ [])
      (code ≡ ok)

-- The same for columns of keys and values.
abbrev pub PropagatesNulls : ℕ → Held → Held → Held → Held → Held → Held → Type 0
PropagatesNulls code keys values keys_before keys_after values_before values_after =
    Propagates code (held_rows keys) (held_rows values)
    ((no_column, HasColumn keys × HasColumn values) ∷ (unsupported_type, held_type keys ≡ of_uint32)
    ∷ (unsupported_type, held_type values ≡ of_utf8_view) ∷ [])
    keys_before keys_after values_before values_after
