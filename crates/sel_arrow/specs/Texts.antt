-- Rows that are strings.
use Rattle.std.specs.Prelude.{Bool, true, List}
use Rattle.std.specs.List.{list_all}
use Rattle.std.specs.Str.{is_utf8}
use Rattle.sel_arrow.specs.Value.{Value, Bytes}

-- Whether a row of bytes is UTF-8; true for every other row (Arrow columnar format: valid rows of
-- Utf8 are UTF-8).
abbrev pub is_text : Value → Bool
is_text (Bytes bytes) = is_utf8 bytes
is_text _ = true

-- Whether this is so for each row.
abbrev pub all_text : List Value → Bool
all_text rows = list_all is_text rows
