-- Elements of fixed-size lists, by the rows and the type of the lists.
use Rattle.std.specs.Prelude.{ℤ, Bool, ◌&&◌, not, List, length, replicate}
use Rattle.sel_bits.specs.declared.faults.Limit.{Limit}
use Rattle.sel_arrow.specs.Shape.{Shape}
use Rattle.sel_arrow.specs.Value.{Value, Number}
use Rattle.sel_c.specs.Types.{entry_type, width_of}
use Rattle.sel_gather.specs.Need.{exceeded_limits}
use Rattle.sel_kernels.specs.Entries.{fixed_get, any_out_of_bounds}

-- The element of each list at one index.
abbrev pub entries_at : List Value → Shape → ℤ → List Value
entries_at rows shape index =
    fixed_get rows (width_of shape) (replicate (length rows) (Number index))

-- The element of each list at its own index.
abbrev pub entries_at_each : List Value → Shape → List Value → List Value
entries_at_each rows shape indices = fixed_get rows (width_of shape) indices

-- Whether `null_on_oob` is false and the index of a list that is not null is null or out of bounds.
abbrev pub any_index_is_error : Bool → List Value → Shape → List Value → Bool
any_index_is_error null_on_oob rows shape indices =
    not null_on_oob && any_out_of_bounds rows (width_of shape) indices

-- The limits that these elements exceed.
abbrev pub exceeded_entries_at_each : List Value → Shape → List Value → Limit → Type 0
exceeded_entries_at_each rows shape indices limit =
    exceeded_limits (entry_type shape) (entries_at_each rows shape indices) limit

-- Whether `null_on_oob` is false and the index is out of bounds for a list that is not null.
abbrev pub index_is_error : Bool → List Value → Shape → ℤ → Bool
index_is_error null_on_oob rows shape index =
    not null_on_oob && any_out_of_bounds rows (width_of shape)
    (replicate (length rows) (Number index))

-- The limits that the elements exceed.
abbrev pub exceeded_entries_at : List Value → Shape → ℤ → Limit → Type 0
exceeded_entries_at rows shape index limit =
    exceeded_limits (entry_type shape) (entries_at rows shape index) limit
