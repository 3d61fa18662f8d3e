-- Parts of columns that callers get: offsets, bytes, views and data buffers.
use Rattle.std.specs.Prelude.{◌≡◌, ◌≢◌, ◌<◌, ℕ, ℤ, List, [], ◌∷◌, length, slice_get}
use Rattle.std.specs.Prelude.{Option, None, Some, IfSome}
use Rattle.std.specs.Option.{option_map}
use Rattle.sel_ffi.specs.Held.{Held}
use Rattle.sel_ffi.specs.Inputs.{positions, views_in}
use Rattle.sel_ffi.specs.Layout.{held_buffers, held_bytes, held_offsets, held_views}
use Rattle.sel_ffi.specs.Status.{ok, out_of_memory, no_column, unsupported_type, length_mismatch}
use Rattle.sel_ffi.specs.Status.{index_out_of_bounds, HasColumn, ReturnsFirst}
use Rattle.sel_ffi.specs.declared.views.ViewWords.{ViewWords}

-- A part that columns of some types have is copied, if there is room for exactly that many items:
-- what is written is read as the part. Nothing is allocated, and on error nothing is written.
pub record CopiesPart {A B : Type 0} (code : ℕ) (held : Held) (part : Option (List A))
    (read : List B → List A) (before after : List B) : Type 0 where
  pub values : code ≡ ok → Some (read after) ≡ part
  pub unchanged : code ≢ ok → after ≡ before
  pub checks : ReturnsFirst code
      ((no_column, HasColumn held) ∷ (unsupported_type, part ≢ None)
      ∷ (length_mismatch, Some (length before) ≡ option_map length part) ∷ []) (code ≡ ok)
  pub memory : code ≢ out_of_memory

-- The length of such a part is written, on error nothing.
pub record CountsPart {A : Type 0} (code : ℕ) (held : Held) (part : Option (List A))
    (before after : ℕ) : Type 0 where
  pub counted : code ≡ ok → Some after ≡ option_map length part
  pub unchanged : code ≢ ok → after ≡ before
  pub checks : ReturnsFirst code
      ((no_column, HasColumn held) ∷ (unsupported_type, part ≢ None) ∷ []) (code ≡ ok)
  pub memory : code ≢ out_of_memory

abbrev pub CopiesOffsets : ℕ → Held → List ℤ → List ℤ → Type 0
CopiesOffsets code held before after =
    CopiesPart code held (held_offsets held) positions before after

abbrev pub CopiesBytes : ℕ → Held → List ℕ → List ℕ → Type 0
CopiesBytes code held before after =
    CopiesPart code held (held_bytes held) (λ bytes. bytes) before after

abbrev pub CopiesViews : ℕ → Held → List ViewWords → List ViewWords → Type 0
CopiesViews code held before after = CopiesPart code held (held_views held) views_in before after

abbrev pub CountsBytes : ℕ → Held → ℕ → ℕ → Type 0
CountsBytes code held before after = CountsPart code held (held_bytes held) before after

abbrev pub CountsBuffers : ℕ → Held → ℕ → ℕ → Type 0
CountsBuffers code held before after = CountsPart code held (held_buffers held) before after

-- The length of data buffer i of a view column is written, on error nothing.
pub record CountsBuffer (code : ℕ) (held : Held) (i before after : ℕ) : Type 0 where
  pub counted : code ≡ ok → option_map (λ buffers. option_map length (slice_get buffers i))
      (held_buffers held) ≡ Some (Some after)
  pub unchanged : code ≢ ok → after ≡ before
  pub checks : ReturnsFirst code
      ((no_column, HasColumn held) ∷ (unsupported_type, held_buffers held ≢ None)
      ∷ (index_out_of_bounds, IfSome (held_buffers held) (λ buffers. i < length buffers)) ∷ [])
      (code ≡ ok)
  pub memory : code ≢ out_of_memory

-- The bytes of data buffer i of a view column are copied, if there is room for exactly that many.
-- On error nothing is written.
pub record CopiesBuffer (code : ℕ) (held : Held) (i : ℕ) (before after : List ℕ) : Type 0 where
  pub values : code ≡ ok →
      option_map (λ buffers. slice_get buffers i) (held_buffers held) ≡ Some (Some after)
  pub unchanged : code ≢ ok → after ≡ before
  pub checks : ReturnsFirst code
      ((no_column, HasColumn held) ∷ (unsupported_type, held_buffers held ≢ None)
      ∷ (index_out_of_bounds, IfSome (held_buffers held) (λ buffers. i < length buffers))
      ∷ (
        length_mismatch,
        option_map (λ buffers. option_map length (slice_get buffers i))
            (held_buffers held) ≡ Some (Some (length before)),
      ) ∷ []) (code ≡ ok)
  pub memory : code ≢ out_of_memory
