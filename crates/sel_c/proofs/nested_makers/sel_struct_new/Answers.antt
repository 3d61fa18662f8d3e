use Rattle.std.proofs.Common.{◌<◌, ℕ, List, subst, sym}
use Rattle.sel_arrow.specs.{Depth.deepest, Shape.Shape, Shape.shapes_of}
use Rattle.sel_ffi.specs.{Inputs.struct_rules, Status.ReportsExactly}
use Rattle.sel_c.proofs.Counts.{counts_of_rows}
use Rattle.sel_c.proofs.nested_makers.sel_struct_new.Goals as goal

pub returns-then-status-eq-OK-clause-status : goal.returns-then-status-eq-OK-clause-status
returns-then-status-eq-OK-clause-status c = λ full shallow.
    let status = c.struct_into-status.result in
    let counts = counts_of_rows c.in-Ok.columns.items c.args.fields.now c.in-Ok.ensures.rows in
    let low = subst (λ (types : List Shape). deepest (shapes_of types) < 128) (sym c.in-Ok.ensures.dtypes) shallow in
    subst (λ (ns : List ℕ). ReportsExactly status (struct_rules c.args.len ns c.args.bits.now c.args.has_bits)) counts (c.struct_into-status.ensures.status low)

pub returns-else-status-eq-OK-clause-status : goal.returns-else-status-eq-OK-clause-status
returns-else-status-eq-OK-clause-status c = λ full shallow.
    let status = c.struct_into-status.result in
    let counts = counts_of_rows c.in-Ok.columns.items c.args.fields.now c.in-Ok.ensures.rows in
    let low = subst (λ (types : List Shape). deepest (shapes_of types) < 128) (sym c.in-Ok.ensures.dtypes) shallow in
    subst (λ (ns : List ℕ). ReportsExactly status (struct_rules c.args.len ns c.args.bits.now c.args.has_bits)) counts (c.struct_into-status.ensures.status low)
