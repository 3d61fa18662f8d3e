use Rattle.sel_gather.proofs.ItemSpans.{span_left, span_rises}
use Rattle.sel_gather.proofs.spans.SpanRunsRuns.next_run.Goals as goal

pub bounds-ends-0 : goal.bounds-ends-0
bounds-ends-0 c =
    let l = c.loop-run in
    (span_left l.run l.starts.now l.at l.ends.now _ c.loop-run-test.true l.invariant.picks c.requires).1

pub overflow_sub-run : goal.overflow_sub-run
overflow_sub-run c =
    let l = c.loop-run in
    span_rises l.run l.starts.now l.at l.ends.now _ c.loop-run-test.true l.invariant.picks c.requires c.to_position-end.result l.invariant.rising c.to_position-end.ensures
