-- Parts between offsets.
use Rattle.std.specs.Prelude.{ℕ, ◌-◌, Bool, true, false, ◌&&◌, nat_le, List, [], ◌∷◌, map, length}
use Rattle.std.specs.Prelude.{Option, slice_index}
use Rattle.std.specs.List.{slice_range}
use Rattle.sel_bits.specs.Bits.{Bits}
use Rattle.sel_arrow.specs.Masked.{masked}
use Rattle.sel_arrow.specs.Value.{Value, Bytes}

-- The parts of a list between consecutive offsets, where the first part begins at `a` (Arrow
-- columnar format: variable-size layouts).
abbrev pub pieces_after : {A : Type 0} → ℕ → List ℕ → List A → List (List A)
pieces_after a [] xs = []
pieces_after a (b ∷ offsets) xs = slice_range xs a b ∷ pieces_after b offsets xs

-- The parts of a list between consecutive offsets (Arrow columnar format: variable-size layouts).
abbrev pub pieces : {A : Type 0} → List ℕ → List A → List (List A)
pieces [] xs = []
pieces (a ∷ offsets) xs = pieces_after a offsets xs

-- Whether no offset is less than the one before it, and the first one is not less than `a` (Arrow
-- columnar format: variable-size layouts).
abbrev pub rises_from : ℕ → List ℕ → Bool
rises_from a [] = true
rises_from a (b ∷ offsets) = nat_le a b && rises_from b offsets

-- Whether there is at least one offset, and none is less than the one before it (Arrow columnar
-- format: variable-size layouts).
abbrev pub is_rising : List ℕ → Bool
is_rising [] = false
is_rising (a ∷ offsets) = rises_from a offsets

-- The number of parts between offsets (Arrow columnar format: variable-size layouts).
abbrev pub rows_between : List ℕ → ℕ
rows_between offsets = length offsets - 1

-- The end of the last part (Arrow columnar format: variable-size layouts).
abbrev pub last_offset : List ℕ → ℕ
last_offset offsets = slice_index offsets (length offsets - 1)

-- The parts of bytes between consecutive offsets, as rows under a validity (Arrow columnar format:
-- variable-size binary layout).
abbrev pub byte_rows : List ℕ → List ℕ → Option Bits → List Value
byte_rows offsets bytes validity = masked validity (map Bytes (pieces offsets bytes))
