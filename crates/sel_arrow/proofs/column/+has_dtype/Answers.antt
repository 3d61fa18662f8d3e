use Rattle.sel_arrow.proofs.Types.{struct_type, struct_shape, by_fields}
use Rattle.sel_arrow.proofs.column.+has_dtype.Goals as goal

pub Column::has_dtype-returns-in-Struct-dtype : goal.Column::has_dtype-returns-in-Struct-dtype
Column::has_dtype-returns-in-Struct-dtype t c =
    let same = rw (c.deref-in-Struct-dtype.ensures.value, c.deref-in-Struct-dtype-2.ensures.value) at c.have_dtypes.ensures in
    by_fields _ _ _ _ (struct_type _ _ _ _ c.in-Struct.is) (struct_shape _ _ c.in-Struct-dtype.is) same
