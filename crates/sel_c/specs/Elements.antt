-- What the calls guarantee that return elements of lists.
use Rattle.std.specs.Prelude.{◌≡◌, ◌++◌, ℕ, ℤ, Bool, false, List, [], ◌∷◌, length, IsTrue}
use Rattle.sel_arrow.specs.Shape.{Shape, of_int64, is_block_shape, is_list_shape}
use Rattle.sel_arrow.specs.Value.{Value}
use Rattle.sel_c.specs.Entries.{entries_at, index_is_error, exceeded_entries_at}
use Rattle.sel_c.specs.Entries.{entries_at_each, any_index_is_error, exceeded_entries_at_each}
use Rattle.sel_c.specs.Returns.{IsOkOrLimit, ReturnsColumn, ReturnsValue}
use Rattle.sel_c.specs.Types.{entry_type}
use Rattle.sel_ffi.specs.Held.{Held}
use Rattle.sel_ffi.specs.Status.{no_column, unsupported_type, length_mismatch}
use Rattle.sel_ffi.specs.Status.{list_index_out_of_bounds}
use Rattle.sel_ffi.specs.Status.{held_rows, held_type, HasColumn}
use Rattle.sel_gather.specs.Need.{exceeded_limits}
use Rattle.sel_kernels.specs.Lists.{list_get, oob}

-- The element at an index of each of these lists.
abbrev pub GetsElements : ℕ → List Value → Shape → ℤ → List (ℕ × Type 0) → Held → Held → Type 0
GetsElements code lists shape index conditions before after =
    ReturnsColumn code before after (list_get lists index) (entry_type shape) conditions
    (IsOkOrLimit code (exceeded_limits (entry_type shape) (list_get lists index)))

-- The same for a column of lists with 64-bit offsets.
abbrev pub GetsListElements : ℕ → Held → ℤ → Held → Held → Type 0
GetsListElements code of index before after =
    GetsElements code (held_rows of) (held_type of) index
    ((no_column, HasColumn of) ∷ (unsupported_type, IsTrue (is_list_shape (held_type of))) ∷ [])
    before after

-- Whether an index is out of bounds for a list that is not null.
abbrev pub FindsOutOfBounds : ℕ → Held → ℤ → Bool → Bool → Type 0
FindsOutOfBounds code of index before after =
    ReturnsValue code before after (oob (held_rows of) index)
    ((no_column, HasColumn of) ∷ (unsupported_type, IsTrue (is_list_shape (held_type of))) ∷ [])

-- The element at an index of each of these fixed-size lists. The index is checked after the
-- conditions.
abbrev pub GetsEntries : ℕ → List Value → Shape → ℤ → Bool → List (ℕ × Type 0) → Held → Held
    → Type 0
GetsEntries code lists shape index null_on_oob conditions before after =
    ReturnsColumn code before after (entries_at lists shape index) (entry_type shape)
    (conditions
    ++ (list_index_out_of_bounds, index_is_error null_on_oob lists shape index ≡ false) ∷ [])
    (IsOkOrLimit code (exceeded_entries_at lists shape index))

-- The same for a column of fixed-size lists.
abbrev pub GetsFixedEntries : ℕ → Held → ℤ → Bool → Held → Held → Type 0
GetsFixedEntries code of index null_on_oob before after =
    GetsEntries code (held_rows of) (held_type of) index null_on_oob
    ((no_column, HasColumn of) ∷ (unsupported_type, IsTrue (is_block_shape (held_type of))) ∷ [])
    before after

-- The element of each of these fixed-size lists at its own index. The indices are checked after the
-- conditions.
abbrev pub GetsEntriesEach : ℕ → List Value → Shape → List Value → Bool → List (ℕ × Type 0)
    → Held → Held → Type 0
GetsEntriesEach code lists shape indices null_on_oob conditions before after =
    ReturnsColumn code before after (entries_at_each lists shape indices) (entry_type shape)
    (conditions ++ (length_mismatch, length indices ≡ length lists)
    ∷ (list_index_out_of_bounds, any_index_is_error null_on_oob lists shape indices ≡ false) ∷ [])
    (IsOkOrLimit code (exceeded_entries_at_each lists shape indices))

-- The same for columns of fixed-size lists and of indices.
abbrev pub GetsFixedEntriesEach : ℕ → Held → Held → Bool → Held → Held → Type 0
GetsFixedEntriesEach code of indices null_on_oob before after =
    GetsEntriesEach code (held_rows of) (held_type of) (held_rows indices) null_on_oob
    ((no_column, HasColumn of × HasColumn indices)
    ∷ (unsupported_type, held_type indices ≡ of_int64)
    ∷ (unsupported_type, IsTrue (is_block_shape (held_type of))) ∷ []) before after
