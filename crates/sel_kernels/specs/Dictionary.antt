-- Dictionary keys and values, and the propagation of null values into the keys.
use Rattle.std.specs.Prelude.{ℕ, pos, List, map, take, count_by, slice_index_or, if◌then◌else◌}
use Rattle.sel_arrow.specs.Value.{Value, Null, Number, is_valid, validities}
use Rattle.sel_kernels.specs.Pick.{take_rows}
use Rattle.sel_kernels.specs.Select.{select}

-- The decoded rows: entry j is null if key j is null, else the value at that key (Arrow columnar
-- format: dictionary-encoded layout).
abbrev pub decode : List Value → List Value → List Value
decode keys values = take_rows values keys

-- The number of non-null values before position k.
abbrev pub rank : List Value → ℕ → ℕ
rank values k = count_by is_valid (take k values)

-- The non-null values, in order.
abbrev pub valid_values : List Value → List Value
valid_values values = select values (validities values)

-- The key of the same value among the non-null values; null if the key is null, out of bounds or
-- the key of a null value.
abbrev pub key_of_valid : List Value → Value → Value
key_of_valid values (Number (pos k)) =
    if is_valid (slice_index_or values k Null) then Number (pos (rank values k)) else Null
key_of_valid values _ = Null

-- The keys of the same values among the non-null values, key by key.
abbrev pub propagated_keys : List Value → List Value → List Value
propagated_keys keys values = map (key_of_valid values) keys
