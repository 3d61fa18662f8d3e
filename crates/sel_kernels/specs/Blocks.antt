-- The blocks of a list at indices.
use Rattle.std.specs.Prelude.{ℕ, ◌+◌, ◌*◌, pos, negsuc, Bool, true, false, nat_le, List, replicate}
use Rattle.std.specs.List.{flat_map, list_all, slice_range}
pub use Rattle.sel_bits.specs.Copying.{IsBeginning}
use Rattle.sel_arrow.specs.Value.{Value, Number}

-- The entries from i * size up to (i + 1) * size for an index i; `size` times `zero` for a null or
-- negative index (Arrow columnar format: fixed-size list layout).
abbrev pub block_at : {A : Type 0} → ℕ → A → List A → Value → List A
block_at size zero xs (Number (pos i)) = slice_range xs (i * size) (i * size + size)
block_at size zero xs _ = replicate size zero

-- The blocks at the indices, concatenated.
abbrev pub block_items : {A : Type 0} → ℕ → A → List A → List Value → List A
block_items size zero xs indices = flat_map (block_at size zero xs) indices

-- Whether an index is null or its block lies within n entries.
abbrev pub is_block_within : ℕ → ℕ → Value → Bool
is_block_within size n (Number (pos i)) = nat_le ((i + 1) * size) n
is_block_within size n (Number (negsuc i)) = false
is_block_within size n _ = true

-- Whether each index is null or its block lies within n entries.
abbrev pub blocks_within : ℕ → ℕ → List Value → Bool
blocks_within size n indices = list_all (is_block_within size n) indices
