use Rattle.sel_runs.proofs.Common.{◌≤◌, ◌+◌, ◌∙◌, arith, ap, length, length-append, unrolled}
use Rattle.sel_runs.proofs.{row_refs.count_runs.Goals.then-not-continues, row_refs.count_runs.Goals.else-not-continues}
use Rattle.sel_runs.proofs.RunLists.{length-unrolled}
use Rattle.sel_runs.proofs.row_refs.count_runs.Goals as goal

pub overflow_sub-left : goal.overflow_sub-left
overflow_sub-left g c =
    let next = ap length c.next_run-run.ensures.picks ∙ length-append (unrolled c.next_run-run.result) _ in
    omega (arith, next, length-unrolled c.next_run-run.result, c.loop-left.invariant.left)

pub loop-left-preserved : goal.loop-left-preserved
loop-left-preserved g c =
    let next = ap length c.next_run-run.ensures.picks ∙ length-append (unrolled c.next_run-run.result) _ in
    let more : c.if-not-continues.count ≤ c.loop-left.count + 1 = elim c.if-not-continues.branch [
      | then-not-continues w ↦ omega (arith, w.count-is)
      | else-not-continues w ↦ omega (arith, w.count-is)
    ]
    in
    record {
      left = omega (arith, next, length-unrolled c.next_run-run.result, c.loop-left.invariant.left);
      count = omega (arith, more, c.next_run-run.ensures.some, next, length-unrolled c.next_run-run.result, c.loop-left.invariant.left, c.loop-left.invariant.count);
    }
