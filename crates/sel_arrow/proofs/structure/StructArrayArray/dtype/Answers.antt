use Rattle.std.proofs.Common.{◌∙◌, sym, ap}
use Rattle.sel_arrow.specs.Shape.{of_struct, shapes_of}
use Rattle.sel_arrow.proofs.Types.{shape_of-Struct, type_of-Struct}
use Rattle.sel_arrow.proofs.structure.StructArrayArray.dtype.Goals as goal

pub returns-clause-dtype : goal.returns-clause-dtype
returns-clause-dtype c =
    let struct = c.args.self.now in
    let same = rw c.deref.ensures.value at c.in_ok-dtypes.ensures.dtypes in
    shape_of-Struct c.in_ok-dtypes.dtypes ∙ ap (λ l. of_struct (shapes_of l)) same ∙ sym (type_of-Struct struct.len struct.fields struct.validity)
