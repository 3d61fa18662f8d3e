-- Struct columns whose fields are chosen one by one, for its internal steps.
use Rattle.std.specs.Prelude.{Bool, true, false, None}
use Rattle.sel_arrow.specs.declared.column.Column.{Column}
use Rattle.sel_arrow.specs.declared.column.Column.TheVariants.{Struct'}

-- Whether the column is a struct column without a validity (Arrow columnar format: struct layout,
-- validity bitmaps).
abbrev pub is_bare : Column → Bool
is_bare (Struct' len n fields None) = true
is_bare column = false
