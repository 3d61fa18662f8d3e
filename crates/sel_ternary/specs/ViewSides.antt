-- The data buffers of the true and false values of an if-then-else of views, and the limits that
-- its result exceeds.
use Rattle.std.specs.Prelude.{ℕ, ◌+◌, ◌<◌, ◌||◌, ◌⊎◌, max, Bool, Vec, String, string_bytes, List}
use Rattle.std.specs.Prelude.{[], ◌∷◌, length, nat_le, if◌then◌else◌}
use Rattle.std.specs.Global.{Global}
use Rattle.std.specs.List.{list_all}
use Rattle.std.specs.Vec.{vec_items}
use Rattle.sel_bits.specs.Limits.{max_buffer_bytes, max_buffers}
use Rattle.sel_bits.specs.declared.faults.Limit.{Limit}
use Rattle.sel_bits.specs.declared.faults.Limit.TheVariants.{Buffers as BufferLimit}
use Rattle.sel_bits.specs.declared.faults.Limit.TheVariants.{ViewBytes as ViewByteLimit}
use Rattle.sel_arrow.specs.Value.{Value}
use Rattle.sel_arrow.specs.Views.{is_inline}
use Rattle.sel_arrow.specs.declared.binview.BinaryViewArray.{BinaryViewArray}
use Rattle.sel_arrow.specs.declared.utf8view.Utf8ViewArray.{Utf8ViewArray}
use Rattle.sel_arrow.specs.declared.view.View.{View}
use Rattle.sel_ternary.specs.Sides.{Side, column, scalar, exceeded_flat}
pub use Rattle.sel_gather.specs.Raised.{raised}

-- Whether k can be added to the buffer index of a view within 32 bits; an inline view has no buffer
-- index.
abbrev pub can_rise : ℕ → View → Bool
can_rise k view = is_inline view || nat_le (view.buffer_idx + k) max_buffers

-- Whether k can be added to the buffer index of each view.
abbrev pub all_rise : ℕ → List View → Bool
all_rise k views = list_all (can_rise k) views

-- The data buffers of a binary view column (Arrow columnar format: variable-size binary view
-- layout).
abbrev pub binview_buffers : BinaryViewArray → List (List ℕ)
binview_buffers array = array.buffers

-- The data buffers of a string view column (Arrow columnar format: variable-size binary view
-- layout).
abbrev pub utf8view_buffers : Utf8ViewArray → List (List ℕ)
utf8view_buffers array = array.bytes.buffers

-- The data buffers of a scalar: one with its bytes, or none if they are inline (Arrow columnar
-- format: up to 12 bytes are inline).
abbrev pub scalar_buffers : List ℕ → List (List ℕ)
scalar_buffers bytes = if nat_le (length bytes) 12 then [] else bytes ∷ []

-- The data buffers of a column or a scalar.
abbrev pub side_buffers : {C S : Type 0} → (C → List (List ℕ)) → (S → List ℕ) → Side C S →
    List (List ℕ)
side_buffers of_column of_scalar (column c) = of_column c
side_buffers of_column of_scalar (scalar s) = scalar_buffers (of_scalar s)

-- The number of bytes of a scalar; 0 for a column.
abbrev pub scalar_size : {C S : Type 0} → (S → List ℕ) → Side C S → ℕ
scalar_size of_scalar (column c) = 0
scalar_size of_scalar (scalar s) = length (of_scalar s)

-- The limits that a number of data buffers, or the number of bytes of a scalar, exceeds.
abbrev pub ExceedsViews : ℕ → ℕ → Limit → Type 0
ExceedsViews buffers bytes BufferLimit = max_buffers < buffers
ExceedsViews buffers bytes ViewByteLimit = max_buffer_bytes < bytes
ExceedsViews buffers bytes _ = ⊥

-- The limits that the result exceeds: that of rows, that of the data buffers of the true and false
-- values together, and that of the bytes of the longest scalar.
abbrev pub exceeded_views : {C S : Type 0} → (C → List (List ℕ)) → (S → List ℕ) → Side C S
    → Side C S →
    List Value → Limit → Type 0
exceeded_views of_column of_scalar if_true if_false rows limit =
    exceeded_flat if_true if_false rows limit
    ⊎ ExceedsViews
    (length (side_buffers of_column of_scalar if_true)
    + length (side_buffers of_column of_scalar if_false))
    (max (scalar_size of_scalar if_true) (scalar_size of_scalar if_false))
    limit

-- These limits for binary view columns, and for string view columns.
abbrev pub exceeded_binview : Side BinaryViewArray (Vec ℕ Global) →
    Side BinaryViewArray (Vec ℕ Global) → List Value → Limit → Type 0
exceeded_binview if_true if_false rows limit =
    exceeded_views binview_buffers vec_items if_true if_false rows limit

abbrev pub exceeded_utf8view : Side Utf8ViewArray (String Global)
    → Side Utf8ViewArray (String Global) →
    List Value → Limit → Type 0
exceeded_utf8view if_true if_false rows limit =
    exceeded_views utf8view_buffers string_bytes if_true if_false rows limit
