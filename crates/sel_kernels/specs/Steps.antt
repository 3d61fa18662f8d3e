-- What functions of this crate state of each other; no public contract has these words.
use Rattle.std.specs.Prelude.{ℕ, ℤ, pos, negsuc, ◌+◌, ◌++◌, ◌*◌, List, length, map, Option, None}
use Rattle.std.specs.Prelude.{slice_index_or}
use Rattle.std.specs.Prelude.{if◌then◌else◌, nat_le, nat_lt}
use Rattle.std.specs.List.{range_with_len}
use Rattle.std.specs.Option.{option_map}
use Rattle.sel_bits.specs.Copying.{Copying}
use Rattle.sel_bits.specs.Limits.{max_rows}
use Rattle.sel_bits.specs.Place.{place}
use Rattle.sel_arrow.specs.Value.{Value, Null}
use Rattle.sel_bits.specs.Validity.{valid_at}
use Rattle.sel_arrow.specs.declared.fixed_size_list.FixedSizeListArray.{FixedSizeListArray}
use Rattle.sel_kernels.specs.Blocks.{block_at}
use Rattle.sel_kernels.specs.Entries.{place_of}

-- The state of copying after the block at an index is appended.
abbrev pub after_block_copy : {A : Type 0} → ℕ → A → Copying A → Value → Copying A
after_block_copy size zero c index =
    record {
      source = c.source;
      items = c.items ++ block_at size zero c.source index;
      copies = c.copies + 1;
    }

-- The child row of list k at a position of the list; none if the list is null or there is no
-- position (Arrow columnar format: fixed-size list layout).
abbrev pub entry_place : FixedSizeListArray → ℕ → Option ℕ → Option ℕ
entry_place arr k place =
    if valid_at arr.validity k then option_map (λ i. k * arr.size + i) place else None

-- The child row of each list at its index.
abbrev pub entry_places : FixedSizeListArray → List Value → List (Option ℕ)
entry_places arr indices =
    map (λ k. entry_place arr k (place_of arr.size (slice_index_or indices k Null)))
    (range_with_len 0 arr.len)

-- The position if it is less than n, otherwise 0.
abbrev pub near_place : ℕ → ℕ → ℕ
near_place n place = if nat_lt place n then place else 0

-- The value at that position; the filler if there are no values.
abbrev pub near_value : {A : Type 0} → List A → A → ℕ → A
near_value values filler place = slice_index_or values (near_place (length values) place) filler

-- The number if it can be an index of a row, otherwise 0.
abbrev pub narrowed : ℤ → ℕ
narrowed (pos n) = if nat_le n max_rows then n else 0
narrowed (negsuc n) = 0
