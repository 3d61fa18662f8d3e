use Rattle.std.proofs.Common.{ap, inr, map, ◌∙◌}
use Rattle.sel_arrow.specs.{Rows.rows, Rows.type_of, Rows.buffers_held, declared.array_ref.ArrayRef.ArrayRef}
use Rattle.sel_c.proofs.SameNeeds.{pick_held}
use Rattle.sel_c.proofs.several.sel_collect_rows.Goals as goal

pub returns-in-Ok : goal.returns-in-Ok
returns-in-Ok c =
    let told = pick_held c.collect_into-status.result c.deref.result.now c.args.sources.now c.args.out.now.tree c.collect_into-status.new.out.tree c.in-Ok.ensures.full
    (ap (map (λ (x : ArrayRef). rows x.column)) c.deref.ensures.value ∙ c.in-Ok.ensures.rows)
    (ap (map (λ (x : ArrayRef). type_of x.column)) c.deref.ensures.value ∙ c.in-Ok.ensures.dtypes)
    (ap (map (λ (x : ArrayRef). buffers_held x.column)) c.deref.ensures.value ∙ c.in-Ok.ensures.buffers) c.args.picks.now c.args.bits.now c.args.has_bits c.collect_into-status.ensures in
    record { rows = told.rows; dtype = told.dtype; checks = inr (inr (c.in-Ok.ensures.full, told.checks)) }
