use Rattle.std.proofs.Common.{sym, ◌∙◌}
use Rattle.sel_c.proofs.Below.{fields_found}
use Rattle.sel_c.proofs.calls.children.struct_fields.Goals as goal

pub returns-in-Struct-clause-fields : goal.returns-in-Struct-clause-fields
returns-in-Struct-clause-fields c = c.as_slice.ensures.value ∙ fields_found c.args.column.now.column c.in-Struct.len c.in-Struct.fields c.in-Struct.validity (sym c.as_column.ensures.column ∙ c.in-Struct.is)
