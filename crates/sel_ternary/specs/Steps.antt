-- What functions of this crate state of each other; no public contract has these words.
use Rattle.std.specs.Prelude.{◌≡◌}
use Rattle.sel_arrow.specs.Rows.{type_of, buffers_held}
use Rattle.sel_arrow.specs.Shape.{Shape, of_large_list, of_fixed_size_list}
use Rattle.sel_arrow.specs.declared.column.Column.{Column}

-- The column has this type, which is one of lists, and its child has the type and the data buffers
-- of the column of entries.
abbrev pub IsBelow : Shape → Column → Column → Type 0
IsBelow (of_large_list s) lists entries =
    (type_of lists ≡ of_large_list s) × (type_of entries ≡ s) ×
    (buffers_held lists ≡ buffers_held entries)
IsBelow (of_fixed_size_list s width) lists entries =
    (type_of lists ≡ of_fixed_size_list s width) × (type_of entries ≡ s) ×
    (buffers_held lists ≡ buffers_held entries)
IsBelow s lists entries = ⊥
