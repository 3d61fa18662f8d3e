use Rattle.sel_kernels.proofs.Common.{◌≡◌, ◌∙◌, sym, subst, IsRun}
use Rattle.sel_kernels.proofs.Selects.{run_of_none, run_of_all, run_of_trimmed}
use Rattle.sel_kernels.proofs.filter.selection.first_kept.Goals as goal

pub returns-then-count-eq0-clause-first : goal.returns-then-count-eq0-clause-first
returns-then-count-eq0-clause-first c at there =
    let same : 0 ≡ at = cc there in
    rw (← same) (run_of_none c.args.mask.now.bits c.args.count c.if-count-eq0.true)

pub returns-then-count-len-clause-first : goal.returns-then-count-len-clause-first
returns-then-count-len-clause-first c at there =
    let same : 0 ≡ at = cc there in
    rw (← same) (run_of_all c.args.mask.now.bits c.args.count (c.if-count-len.true ∙ c.len.ensures) c.requires)

pub returns-then-is_all_true-clause-first : goal.returns-then-is_all_true-clause-first
returns-then-is_all_true-clause-first c at there =
    let bits = c.args.mask.now.bits in
    let trimmed = c.in_ok-leading.ensures in
    let same : c.in_ok-leading.leading ≡ at = cc there in
    rw (← same) (subst (IsRun bits c.in_ok-leading.leading) (sym c.requires) (run_of_trimmed bits c.in_ok-leading.leading c.in_ok-leading.rest.bits trimmed.kept trimmed.within trimmed.part (c.is_all_true.ensures.0 c.if-is_all_true.true)))
