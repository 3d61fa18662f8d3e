use Rattle.sel_gather.proofs.{Common.rules, FieldsOf.field_found, FieldsOf.field_missing}
use Rattle.sel_gather.proofs.structs.field_of.Goals as goal

pub returns-then-j-len : goal.returns-then-j-len
returns-then-j-len c = field_found c.args.column.now c.args.j c.in-Struct.len c.in-Struct.fields c.in-Struct.validity _ c.in-Struct.is (search rules) c.index.ensures

pub returns-else-j-len : goal.returns-else-j-len
returns-else-j-len c = field_missing c.args.column.now c.args.j c.in-Struct.len c.in-Struct.fields c.in-Struct.validity c.in-Struct.is (search rules)
