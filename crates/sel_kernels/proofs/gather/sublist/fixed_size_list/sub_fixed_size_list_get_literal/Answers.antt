use Rattle.sel_kernels.proofs.Common.{◌∙◌, sym, w64, IfOk-weaker, MatchResult-weaker, at_each, to_z-of_z}
use Rattle.sel_kernels.proofs.Elements.{entries_fit, entries_got, refused_so}
use Rattle.sel_kernels.proofs.gather.sublist.fixed_size_list.sub_fixed_size_list_get_literal.Goals as goal

pub collect_one_plan-requires-clause-fits : goal.collect_one_plan-requires-clause-fits
collect_one_plan-requires-clause-fits c =
    rw (c.values.ensures.column, to_z-of_z w64 c.args.index c.ranges.index) (entries_fit c.args.arr.now (at_each c.args.arr.now c.args.index))

pub returns : goal.returns
returns c =
    let arr = c.args.arr.now in
    let shown = to_z-of_z w64 c.args.index c.ranges.index in
    let asked = sym (rw shown at c.is_literal_error.ensures) ∙ c.if-is_literal_error.false in
    let got = rw (c.values.ensures.column, shown, entries_got arr (at_each arr c.args.index)) at c.collect_one_plan.ensures in
    record {
      rows = got.rows;
      dtype = got.dtype;
      inside = IfOk-weaker c.collect_one_plan.result _ _ (λ taken is. asked) got.rows;
      within = got.within;
      refusal = MatchResult-weaker c.collect_one_plan.result got.refusal (λ taken h. h) (λ fault h. refused_so arr (at_each arr c.args.index) c.args.null_on_oob fault asked h);
    }
