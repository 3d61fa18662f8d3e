-- What the functions state that share a part of a handle's column, or show a buffer.
use Rattle.std.specs.Prelude.{◌≡◌, ◌≢◌, ◌<◌, ℕ, [], ◌∷◌, length, slice_index_or}
use Rattle.std.specs.Prelude.{None, Some, IfSome}
use Rattle.std.specs.Option.{option_map}
use Rattle.sel_arrow.specs.Nulls.{IsValidityOf}
use Rattle.sel_ffi.specs.Held as handle
use Rattle.sel_ffi.specs.Layout.{held_buffers}
use Rattle.sel_ffi.specs.Status.{ok, out_of_memory, no_column, unsupported_type}
use Rattle.sel_ffi.specs.Status.{index_out_of_bounds, held_rows, held_type, HasColumn, ReturnsFirst}
use Rattle.sel_ffi.specs.Buffers.{bitmap_of, first_of, length_of}
use Rattle.sel_ffi.specs.HeldBuffer.{Held}
use Rattle.sel_ffi.specs.declared.shared_buffer.SharedBuffer.TheVariants.{Empty, UInt8}

-- On success, the second handle has this buffer of the first one's column, of which columns of some
-- types have none; on error, it is unchanged.
pub record SharesPart (code : ℕ) (held : handle.Held) (part before after : Held) : Type 0 where
  pub buffer : code ≡ ok → after ≡ part
  pub unchanged : code ≢ ok → after ≡ before
  pub checks : ReturnsFirst code
      ((no_column, HasColumn held) ∷ (unsupported_type, part ≢ None) ∷ []) (code ≡ ok)

-- On success, the second handle has the validity of the first one's column, or is empty; on error,
-- it is unchanged.
pub record SharesValidity (code : ℕ) (held : handle.Held) (before after : Held) : Type 0 where
  pub validity : code ≡ ok → IsValidityOf (held_type held) (bitmap_of after) (held_rows held)
  pub unchanged : code ≢ ok → after ≡ before
  pub checks : ReturnsFirst code ((no_column, HasColumn held) ∷ []) (code ≡ ok)

-- On success, the second handle has data buffer i of the first one's view column; on error, it is
-- unchanged.
pub record SharesData (code : ℕ) (held : handle.Held) (i : ℕ) (before after : Held) : Type 0 where
  pub buffer : code ≡ ok →
      after ≡ option_map (λ buffers. UInt8 (slice_index_or buffers i [])) (held_buffers held)
  pub unchanged : code ≢ ok → after ≡ before
  pub checks : ReturnsFirst code
      ((no_column, HasColumn held) ∷ (unsupported_type, held_buffers held ≢ None)
      ∷ (index_out_of_bounds, IfSome (held_buffers held) (λ buffers. i < length buffers)) ∷ [])
      (code ≡ ok)

-- The length of a handle's buffer and the index of its first bit are written, on error nothing.
-- Nothing is allocated.
pub record ShowsBuffer (code : ℕ) (held : Held) (len_before len_after first_before first_after : ℕ)
    : Type 0 where
  pub len : code ≡ ok → len_after ≡ length_of held
  pub first : code ≡ ok → first_after ≡ first_of held
  pub unchanged : code ≢ ok → (len_after ≡ len_before) × (first_after ≡ first_before)
  pub checks : ReturnsFirst code
      ((no_column, held ≢ None) ∷ (unsupported_type, held ≢ Some Empty) ∷ []) (code ≡ ok)
  pub memory : code ≢ out_of_memory
