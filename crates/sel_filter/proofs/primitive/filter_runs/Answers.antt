use Rattle.sel_filter.proofs.Common.{◌∙◌}
use Rattle.sel_filter.proofs.RunFiltering.{run_filtered}
use Rattle.sel_filter.proofs.primitive.filter_runs.Goals as goal

pub loop-word-preserved : goal.loop-word-preserved
loop-word-preserved g c =
    let some = c.in-Some in
    let made = c.in_ok-copy_runs.ensures in
    run_filtered _ _ _ _ _ _ c.loop-word.invariant _ _ (some.word-is ∙ some.ensures.word) (some.count-is ∙ some.ensures.count) c.copy_runs.new.out _ some.ensures.after made.source made.appended made.counted
