-- Validities of rows: bitmaps with a bit for each row, true if it is valid; none if all are.
use Rattle.std.specs.Prelude.{◌≡◌, ℕ, Bool, true, false, List, length, take, drop, replicate}
use Rattle.std.specs.Prelude.{slice_index_or, Option, Some, None, ◌==◌, not}
use Rattle.std.specs.Option.{ForSome}
use Rattle.sel_bits.specs.Bits.{Bits}

-- The validity, if there is one, has this length (Arrow columnar format: validity bitmaps).
abbrev pub Covers : Option Bits → ℕ → Type 0
Covers validity n = ForSome validity (λ v. length v.bits ≡ n)

-- Whether there is a validity, and it has a different length.
abbrev pub validity_differs : Option Bits → ℕ → Bool
validity_differs None n = false
validity_differs (Some validity) n = not (length validity.bits == n)

-- Whether the validity, if there is one, has this length (Arrow columnar format: validity bitmaps).
abbrev pub covers : Option Bits → ℕ → Bool
covers validity n = not (validity_differs validity n)

-- Whether row i is valid; true without a validity (Arrow columnar format: validity bitmaps).
abbrev pub valid_at : Option Bits → ℕ → Bool
valid_at None i = true
valid_at (Some validity) i = slice_index_or validity.bits i false

-- The validity of n rows; all true without a bitmap (Arrow columnar format: validity bitmaps).
abbrev pub bits_for : ℕ → Option Bits → List Bool
bits_for n None = replicate n true
bits_for n (Some validity) = validity.bits

-- The validity of the n rows from `start` on; all true without a bitmap (Arrow columnar format:
-- validity bitmaps).
abbrev pub part_bits : ℕ → ℕ → Option Bits → List Bool
part_bits start n None = replicate n true
part_bits start n (Some validity) = take n (drop start validity.bits)
