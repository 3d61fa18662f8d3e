-- The rows of columns with children.
use Rattle.std.specs.Prelude.{ℕ, ◌+◌, ◌*◌, List, map, Option, slice_index_or}
use Rattle.std.specs.List.{range_with_len, slice_range}
use Rattle.sel_bits.specs.Bits.{Bits}
use Rattle.sel_arrow.specs.Masked.{masked}
use Rattle.sel_arrow.specs.Pieces.{pieces}
use Rattle.sel_arrow.specs.Value.{Value, Null, Items, Tuple, values_of}

-- A list of values as one list value (Arrow columnar format: list layouts).
abbrev pub list_of : List Value → Value
list_of values = Items (values_of values)

-- Row i is null if its validity bit is false, else the list of the child's rows from offset i up to
-- offset i + 1 (Arrow columnar format: variable-size list layout).
abbrev pub list_rows : List ℕ → List Value → Option Bits → List Value
list_rows offsets child validity = masked validity (map list_of (pieces offsets child))

-- The first n parts of `width` entries each (Arrow columnar format: fixed-size list layout).
abbrev pub blocks : {A : Type 0} → ℕ → ℕ → List A → List (List A)
blocks width n xs = map (λ i. slice_range xs (i * width) (i * width + width)) (range_with_len 0 n)

-- Row i is null if its validity bit is false, else the list of the child's rows from i * width up
-- to (i + 1) * width (Arrow columnar format: fixed-size list layout).
abbrev pub block_rows : ℕ → ℕ → List Value → Option Bits → List Value
block_rows width n child validity = masked validity (map list_of (blocks width n child))

-- The struct value of the entries at position i of the fields (Arrow columnar format: struct
-- layout).
abbrev pub struct_at : List (List Value) → ℕ → Value
struct_at fields i = Tuple (values_of (map (λ field. slice_index_or field i Null) fields))

-- Row i is null if its validity bit is false, else the struct value of row i of each field (Arrow
-- columnar format: struct layout).
abbrev pub struct_rows : ℕ → List (List Value) → Option Bits → List Value
struct_rows n fields validity = masked validity (map (struct_at fields) (range_with_len 0 n))
