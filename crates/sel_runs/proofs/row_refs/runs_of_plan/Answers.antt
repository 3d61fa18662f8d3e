use Rattle.sel_runs.proofs.Common.{◌≡◌, ◌++◌, [], length, ap, sym, ◌∙◌, arith, length-append, append-nil, expand, unrolled}
use Rattle.sel_runs.proofs.RunLists.{length-unrolled}
use Rattle.sel_runs.proofs.Gathers.{none_left, run_more}
use Rattle.sel_runs.proofs.row_refs.runs_of_plan.Goals as goal

pub push_run-requires : goal.push_run-requires
push_run-requires g c =
    let all = ap length c.loop-left.invariant.picks in
    let both = length-append (expand c.loop-left.runs.items) (g.P.Plan.picks c.loop-left.rest) in
    let next = ap length c.next_run-run.ensures.picks ∙ length-append (unrolled c.next_run-run.result) _ in
    omega (arith, all, both, next, length-unrolled c.next_run-run.result, c.len-left.ensures.len, c.len-left.ensures.few)

pub loop-left-preserved : goal.loop-left-preserved
loop-left-preserved g c =
    let next = ap length c.next_run-run.ensures.picks ∙ length-append (unrolled c.next_run-run.result) _ in
    record {
      picks = run_more (expand c.loop-left.runs.items) (expand c.push_run.new.runs.items) (unrolled c.next_run-run.result) (g.P.Plan.picks c.loop-left.rest) _ (g.P.Plan.picks c.args.plan.now) c.loop-left.invariant.picks c.next_run-run.ensures.picks c.in_ok-push_run.ensures.picks;
      count = omega (arith, next, length-unrolled c.next_run-run.result, c.loop-left.invariant.count);
    }

pub returns-clause-picks : goal.returns-clause-picks
returns-clause-picks g c =
    let none : g.P.Plan.picks c.loop-left.rest ≡ [] = none_left (g.P.Plan.picks c.loop-left.rest) (omega (arith, c.loop-left.invariant.count, c.loop-left-test.false)) in
    sym (append-nil (expand c.loop-left.runs.items)) ∙ ap (λ l. expand c.loop-left.runs.items ++ l) (sym none) ∙ c.loop-left.invariant.picks

pub overflow_sub-left : goal.overflow_sub-left
overflow_sub-left g c =
    let next = ap length c.next_run-run.ensures.picks ∙ length-append (unrolled c.next_run-run.result) _ in
    omega (arith, next, length-unrolled c.next_run-run.result, c.loop-left.invariant.count)
