-- What the calls guarantee that make a column, or write a value.
use Rattle.std.specs.Prelude.{◌≡◌, ◌≢◌, ◌⊎◌, ℕ, List}
use Rattle.sel_bits.specs.declared.faults.Limit.{Limit}
use Rattle.sel_arrow.specs.Rows.{rows, type_of}
use Rattle.sel_arrow.specs.Shape.{Shape}
use Rattle.sel_arrow.specs.Value.{Value}
use Rattle.sel_ffi.specs.Held.{Held}
use Rattle.sel_ffi.specs.Status.{ok, out_of_memory, limit_status, Makes, ReturnsFirst}
use Rattle.sel_gather.specs.Need.{ExceedsNone}

-- The status is success, and no limit is exceeded, or it is that of a limit that is exceeded.
abbrev pub IsOkOrLimit : ℕ → (Limit → Type 0) → Type 0
IsOkOrLimit code exceeded =
    ((code ≡ ok) × ExceedsNone exceeded)
    ⊎ ((limit : Limit) × (code ≡ limit_status limit) × exceeded limit)

-- On success the handle has a column of these rows and this type. The status is out of memory, that
-- of the first condition that does not hold, or, if all hold, one that the last argument allows.
pub record ReturnsColumn (code : ℕ) (before after : Held) (values : List Value) (shape : Shape)
    (conditions : List (ℕ × Type 0)) (AllHold : Type 0) : Type 0 where
  pub rows : Makes code before after (λ made. rows made.column ≡ values)
  pub dtype : Makes code before after (λ made. type_of made.column ≡ shape)
  pub checks : ReturnsFirst code conditions AllHold

-- On success the value is written, on error nothing is. The status is that of the first condition
-- that does not hold, or success. Nothing is allocated.
pub record ReturnsValue {A : Type 0} (code : ℕ) (before after value : A)
    (conditions : List (ℕ × Type 0)) : Type 0 where
  pub written : code ≡ ok → after ≡ value
  pub unchanged : code ≢ ok → after ≡ before
  pub checks : ReturnsFirst code conditions (code ≡ ok)
  pub memory : code ≢ out_of_memory
