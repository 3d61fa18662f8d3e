use Rattle.std.proofs.{Common.arith, lemmas.Grind.common_steps}
use Rattle.sel_arrow.proofs.Rows.{length-truth_rows}
use Rattle.sel_kernels.proofs.{Common.length-map, Selects.effective_mask-bools}
use Rattle.sel_c.proofs.calls.choices.effective_bits.Goals as goal

pub returns-in-Some-clause-few : goal.returns-in-Some-clause-few
returns-in-Some-clause-few c =
    let mask = c.args.mask.now in
    let all = effective_mask-bools mask.values.bits mask.validity c.in-Some.validity c.in-Some.is mask.validity_fits in
    grind (arith, common_steps, all, (length-truth_rows mask.values.bits mask.validity), length-map)
