use Rattle.sel_arrow.proofs.Types.{struct_type, by_fields}
use Rattle.sel_arrow.proofs.column.+same_dtype.Goals as goal

pub Column::same_dtype-returns-in-Struct-other : goal.Column::same_dtype-returns-in-Struct-other
Column::same_dtype-returns-in-Struct-other t c =
    let same = rw (c.deref-in-Struct-other.ensures.value, c.deref-in-Struct-other-2.ensures.value) at c.same_dtypes.ensures in
    by_fields _ _ _ _ (struct_type _ _ _ _ c.in-Struct.is) (struct_type _ _ _ _ c.in-Struct-other.is) same
