-- Binary and string views.
use Rattle.std.specs.Prelude.{ℕ, ◌+◌, Bool, ◌&&◌, ◌||◌, List, [], ◌∷◌, ◌++◌, map, length, take}
use Rattle.std.specs.Prelude.{Option, nat_lt, nat_le, ◌==◌, slice_index, slice_index_or}
use Rattle.std.specs.Prelude.{if◌then◌else◌}
use Rattle.std.specs.Int.{w32, to_le_bytes, from_le_bytes}
use Rattle.std.specs.List.{slice_range, list_all}
use Rattle.sel_bits.specs.Bits.{Bits}
use Rattle.sel_arrow.specs.Masked.{masked}
use Rattle.sel_arrow.specs.Value.{Value, Bytes}
use Rattle.sel_arrow.specs.declared.view.View.{View}

-- The four bytes from `at` on as a little-endian integer; missing bytes are 0 (Arrow columnar
-- format: prefix of a view).
abbrev pub word_at : List ℕ → ℕ → ℕ
word_at bytes at =
    from_le_bytes w32 (slice_index bytes at ∷ slice_index bytes (at + 1)
    ∷ slice_index bytes (at + 2) ∷ slice_index bytes (at + 3) ∷ [])

-- Whether a view stores its bytes inline (Arrow columnar format: up to 12 bytes are inline).
abbrev pub is_inline : View → Bool
is_inline view = nat_le view.length 12

-- The last 12 bytes of a view: prefix, buffer index and offset, each little-endian (Arrow columnar
-- format: variable-size binary view layout).
abbrev pub inline_space : View → List ℕ
inline_space view =
    to_le_bytes w32 view.prefix ++ to_le_bytes w32 view.buffer_idx ++ to_le_bytes w32 view.offset

-- The inline bytes of a view; any bytes after its length are ignored.
abbrev pub inline_bytes : View → List ℕ
inline_bytes view = take view.length (inline_space view)

-- The bytes of data buffer i; empty if there is no such buffer (Arrow columnar format:
-- variable-size binary view layout).
abbrev pub buffer_at : List (List ℕ) → ℕ → List ℕ
buffer_at buffers i = slice_index_or buffers i []

-- The bytes of a view: inline, or in a data buffer (Arrow columnar format: variable-size binary
-- view layout).
abbrev pub view_bytes : List (List ℕ) → View → List ℕ
view_bytes buffers view =
    if is_inline view then inline_bytes view
    else slice_range (buffer_at buffers view.buffer_idx) view.offset (view.offset + view.length)

-- The view of the given bytes: inline if there are at most 12, else at `offset` in data buffer
-- `buffer_idx` (Arrow columnar format: variable-size binary view layout).
abbrev pub view_of : List ℕ → ℕ → ℕ → View
view_of bytes buffer_idx offset =
    if nat_le (length bytes) 12
    then record {
      length = length bytes;
      prefix = word_at bytes 0;
      buffer_idx = word_at bytes 4;
      offset = word_at bytes 8;
    }
    else record {
      length = length bytes;
      prefix = word_at bytes 0;
      buffer_idx = buffer_idx;
      offset = offset;
    }

-- Whether a view is inline or its range lies within its data buffer (Arrow columnar format:
-- variable-size binary view layout).
abbrev pub is_in_range : List (List ℕ) → View → Bool
is_in_range buffers view =
    is_inline view
    || (nat_lt view.buffer_idx (length buffers)
    && nat_le (view.offset + view.length) (length (buffer_at buffers view.buffer_idx)))

-- Whether a view is inline or its prefix is the first four of its bytes (Arrow columnar format:
-- variable-size binary view layout).
abbrev pub has_prefix : List (List ℕ) → View → Bool
has_prefix buffers view = is_inline view || (view.prefix == word_at (view_bytes buffers view) 0)

-- Whether a view is in range and has the right prefix (Arrow columnar format: variable-size binary
-- view layout).
abbrev pub is_placed : List (List ℕ) → View → Bool
is_placed buffers view = is_in_range buffers view && has_prefix buffers view

-- Whether this is so for each view (Arrow columnar format: variable-size binary view layout).
abbrev pub all_placed : List (List ℕ) → List View → Bool
all_placed buffers views = list_all (is_placed buffers) views

-- The bytes of a view as a row (Arrow columnar format: variable-size binary view layout).
abbrev pub view_value : List (List ℕ) → View → Value
view_value buffers view = Bytes (view_bytes buffers view)

-- Views as rows under a validity (Arrow columnar format: variable-size binary view layout).
abbrev pub view_rows : List View → List (List ℕ) → Option Bits → List Value
view_rows views buffers validity = masked validity (map (view_value buffers) views)
