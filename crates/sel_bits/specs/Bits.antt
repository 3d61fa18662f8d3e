-- The contract model of bitmaps, and functions on lists of booleans.
use Rattle.std.specs.Prelude.{ℕ, ◌+◌, ◌/◌, ◌%◌, Bool, true, false, List, [], ◌∷◌, map, slice_index}
use Rattle.std.specs.Prelude.{count_by, not, reverse}
use Rattle.std.specs.List.{range_with_len}
use Rattle.sel_bits.specs.Words.{is_set}

-- The booleans of a bitmap, and the position of the first one among the bits of the shared bytes.
pub record Bits : Type 0 where
  pub bits : List Bool
  pub offset : ℕ

-- The bitmap of these booleans with offset 0.
abbrev pub unsliced : List Bool → Bits
unsliced values = record { bits = values; offset = 0 }

-- Bit j of the bytes: bit j % 8 of byte j / 8, least significant bit first (Arrow columnar format:
-- bitmaps).
abbrev pub bit_in : List ℕ → ℕ → Bool
bit_in bytes j = is_set (slice_index bytes (j / 8)) (j % 8)

-- The n bits of the bytes from bit o on (Arrow columnar format: bitmaps).
unfoldable pub bits_from : List ℕ → ℕ → ℕ → List Bool
bits_from bytes o n = map (bit_in bytes) (range_with_len o n)

-- The number of true entries.
abbrev pub count_true : List Bool → ℕ
count_true bits = count_by (λ b. b) bits

-- The number of false entries.
abbrev pub count_false : List Bool → ℕ
count_false bits = count_by not bits

-- f applied to the entries at each position, up to the end of the shorter list.
abbrev pub zip_with : {A B C : Type 0} → (A → B → C) → List A → List B → List C
zip_with f [] ys = []
zip_with f (x ∷ xs) [] = []
zip_with f (x ∷ xs) (y ∷ ys) = f x y ∷ zip_with f xs ys

-- f applied to the entries at each position, up to the end of the shortest list.
abbrev pub zip_three : {A B C D : Type 0} → (A → B → C → D) → List A → List B → List C → List D
zip_three f [] ys zs = []
zip_three f (x ∷ xs) [] zs = []
zip_three f (x ∷ xs) (y ∷ ys) [] = []
zip_three f (x ∷ xs) (y ∷ ys) (z ∷ zs) = f x y z ∷ zip_three f xs ys zs

-- The number of false entries before the first true one; all entries if none is true.
abbrev pub leading_zeros : List Bool → ℕ
leading_zeros [] = 0
leading_zeros (true ∷ bits) = 0
leading_zeros (false ∷ bits) = leading_zeros bits + 1

-- The number of true entries before the first false one; all entries if none is false.
abbrev pub leading_ones : List Bool → ℕ
leading_ones bits = leading_zeros (map not bits)

-- The number of false entries after the last true one; all entries if none is true.
abbrev pub trailing_zeros : List Bool → ℕ
trailing_zeros bits = leading_zeros (reverse bits)
