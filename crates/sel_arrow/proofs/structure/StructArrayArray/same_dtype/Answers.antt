use Rattle.sel_arrow.proofs.Types.{type_of-Struct, by_fields}
use Rattle.sel_arrow.proofs.structure.StructArrayArray.same_dtype.Goals as goal

pub returns : goal.returns
returns c =
    let struct = c.args.self.now in
    let other = c.args.other.now in
    let same = rw (c.deref.ensures.value, c.deref-2.ensures.value) at c.same_dtypes.ensures in
    by_fields _ _ _ _ (type_of-Struct struct.len struct.fields struct.validity) (type_of-Struct other.len other.fields other.validity) same
