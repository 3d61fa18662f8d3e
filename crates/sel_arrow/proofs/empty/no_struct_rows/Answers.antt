use Rattle.std.proofs.Common.{None}
use Rattle.sel_arrow.proofs.Types.{type_of-Struct}
use Rattle.sel_arrow.proofs.empty.no_struct_rows.Goals as goal

pub returns-clause-dtype : goal.returns-clause-dtype
returns-clause-dtype c = type_of-Struct 0 c.args.fields None
