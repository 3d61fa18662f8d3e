-- Rows under a validity.
use Rattle.std.specs.Prelude.{ℕ, ℤ, ◌+◌, Bool, List, [], ◌∷◌, map, take, drop, Option, Some, None}
use Rattle.std.specs.Prelude.{if◌then◌else◌, nat_lt, nat_le}
use Rattle.sel_bits.specs.Limits.{max_rows}
use Rattle.sel_bits.specs.Bits.{Bits}
use Rattle.sel_arrow.specs.Value.{Value, Null, Truth, Number, Bytes}

-- The values, null where the boolean at the same position is false (Arrow columnar format: validity
-- bitmaps).
abbrev pub hidden : List Bool → List Value → List Value
hidden [] vs = vs
hidden (b ∷ bs) [] = []
hidden (b ∷ bs) (v ∷ vs) = (if b then v else Null) ∷ hidden bs vs

-- The values, null where the validity bit is false; unchanged without a validity (Arrow columnar
-- format: validity bitmaps).
abbrev pub masked : Option Bits → List Value → List Value
masked None vs = vs
masked (Some validity) vs = hidden validity.bits vs

-- Integers as rows under a validity (Arrow columnar format: validity bitmaps).
abbrev pub number_rows : {T : Type 0} → (T → ℤ) → List T → Option Bits → List Value
number_rows number xs validity = masked validity (map (λ x. Number (number x)) xs)

-- Booleans as rows under a validity (Arrow columnar format: validity bitmaps).
abbrev pub bool_rows : List Bool → Option Bits → List Value
bool_rows bits validity = masked validity (map Truth bits)

-- An integer as a row; null for none.
abbrev pub number_value : {T : Type 0} → (T → ℤ) → Option T → Value
number_value number None = Null
number_value number (Some x) = Number (number x)

-- A boolean as a row; null for none.
abbrev pub bool_value : Option Bool → Value
bool_value None = Null
bool_value (Some b) = Truth b

-- Bytes as a row; null for none.
abbrev pub bytes_value : Option (List ℕ) → Value
bytes_value None = Null
bytes_value (Some bytes) = Bytes bytes

-- The `len` bits of a bitmap from bit `off` on.
abbrev pub part_of : ℕ → ℕ → Bits → Bits
part_of off len b = record { bits = take len (drop off b.bits); offset = b.offset + off }

-- Whether this is more than the maximum number of rows of a column.
abbrev pub too_many : ℕ → Bool
too_many n = nat_lt max_rows n

-- Whether a column can have this number of rows.
abbrev pub is_few : ℕ → Bool
is_few n = nat_le n max_rows
