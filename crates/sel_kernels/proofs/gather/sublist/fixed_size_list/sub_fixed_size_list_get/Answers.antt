use Rattle.sel_kernels.proofs.Common.{◌∙◌, sym, IfOk-weaker, MatchResult-weaker, primitive_rows, rows_pass, type_of}
use Rattle.sel_kernels.proofs.Elements.{refused_so}
use Rattle.sel_kernels.proofs.gather.sublist.fixed_size_list.sub_fixed_size_list_get.Goals as goal

pub returns-in-None : goal.returns-in-None
returns-in-None c =
    let indices = primitive_rows c.args.index.now in
    let asked = sym c.is_error.ensures ∙ c.if-is_error.false in
    let got = c.gather_elements.ensures in
    record {
      rows = got.rows;
      dtype = got.dtype;
      inside = IfOk-weaker c.gather_elements.result _ _ (λ taken is. asked) got.rows;
      within = got.within;
      refusal = MatchResult-weaker c.gather_elements.result got.refusal (λ taken h. h) (λ fault h. refused_so c.args.arr.now indices c.args.null_on_oob fault asked h);
    }

pub returns-in-Some-clause-within : goal.returns-in-Some-clause-within
returns-in-Some-clause-within c =
    let taken = c.in-Some.taken in
    let made = rw c.in-Some.is at c.in_ok-taken.ensures in
    rows_pass taken.column (type_of c.args.arr.now.values.value) _ taken.formed made.dtype made.rows
