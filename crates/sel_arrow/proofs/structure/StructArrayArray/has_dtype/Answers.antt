use Rattle.sel_arrow.proofs.Types.{type_of-Struct, struct_shape, by_fields}
use Rattle.sel_arrow.proofs.structure.StructArrayArray.has_dtype.Goals as goal

pub returns-in-Struct : goal.returns-in-Struct
returns-in-Struct c =
    let struct = c.args.self.now in
    let same = rw (c.deref.ensures.value, c.deref-in-Struct.ensures.value) at c.have_dtypes.ensures in
    by_fields _ _ _ _ (type_of-Struct struct.len struct.fields struct.validity) (struct_shape _ _ c.in-Struct.is) same
