-- Binary rows that are appended to others, step by step.
use Rattle.std.specs.Prelude.{◌≡◌, ℕ, pos, ◌<◌, ◌++◌, List, [], map, length, slice_index_or}
use Rattle.std.specs.List.{flat_map}
use Rattle.sel_arrow.specs.Value.{Value, Null, Bytes, validities}
use Rattle.sel_gather.specs.declared.binary.Joined.{Joined}
use Rattle.sel_gather.specs.JoinedBytes.{ends_from, IsBytesRow}

-- The bytes of a binary or string row; empty for any other value, such as null.
abbrev pub bytes_of : Value → List ℕ
bytes_of (Bytes bytes) = bytes
bytes_of _ = []

-- The bytes of all rows, concatenated.
abbrev pub joined_bytes : List Value → List ℕ
joined_bytes rows = flat_map bytes_of rows

-- Each row is null or bytes.
abbrev pub AllBytesRows : List Value → Type 0
AllBytesRows rows = (k : ℕ) → k < length rows → IsBytesRow (slice_index_or rows k Null)

-- The rows were appended to the ones before: the end of each, its bytes, and whether it is valid.
pub record GrewBy (rows : List Value) (old new : Joined) : Type 0 where
  pub ends : new.ends.items ≡ old.ends.items ++ map pos (ends_from (length old.bytes.items) rows)
  pub bytes : new.bytes.items ≡ old.bytes.items ++ joined_bytes rows
  pub bits : new.validity ≡ old.validity ++ validities rows
