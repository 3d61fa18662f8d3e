-- The values that are stored for rows, including those in null slots.
use Rattle.std.specs.Prelude.{ℕ, length, nat_le, if◌then◌else◌, Bool, true, false, List, [], ◌∷◌}
use Rattle.sel_arrow.specs.Value.{Value, Truth, Bytes}
use Rattle.sel_text.specs.declared.build.NullSlots.{NullSlots}
use Rattle.sel_text.specs.declared.build.NullSlots.TheVariants.{Zeros, Others}

-- The boolean of a row; for any other row false, or true if null slots hold other values than
-- zeros.
abbrev pub bool_stored : NullSlots → Value → Bool
bool_stored beneath (Truth truth) = truth
bool_stored Zeros value = false
bool_stored Others value = true

-- The bytes of a row; for any other row none, or a question mark if null slots hold other values
-- than zeros.
abbrev pub bytes_stored : NullSlots → Value → List ℕ
bytes_stored beneath (Bytes bytes) = bytes
bytes_stored Zeros value = []
bytes_stored Others value = 63 ∷ []

-- The bytes of a view that are in a data buffer: all of them if there are more than 12, else none
-- (Arrow columnar format: variable-size binary view layout).
abbrev pub bytes_behind : List ℕ → List ℕ
bytes_behind bytes = if nat_le (length bytes) 12 then [] else bytes
