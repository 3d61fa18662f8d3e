use Rattle.sel_runs.proofs.Common.{◌+◌, ◌-◌, ◌<◌, ◌≡◌, ◌∙◌, length, ap, arith, expand}
use Rattle.sel_runs.proofs.RunLists.{expand-push, last_joined, one_len}
use Rattle.sel_runs.proofs.runs.push_run.Goals as goal

pub joined-requires : goal.joined-requires
joined-requires c =
    let runs = c.args.runs.now.items in
    let i = c.len-count.result - 1 in
    let inside : i < length runs = omega (arith, c.len-count.ensures, c.if-count-gt0.true) in
    omega (arith, one_len runs i c.index.result.now inside c.index.ensures, c.requires)

pub returns-in-Some-clause-picks : goal.returns-in-Some-clause-picks
returns-in-Some-clause-picks c =
    let runs = c.args.runs.now.items in
    let i = c.len-count.result - 1 in
    let end : i + 1 ≡ length runs = omega (arith, c.len-count.ensures, c.if-count-gt0.true) in
    last_joined runs i c.index.result.now c.in-Some.both c.args.run end c.index.ensures c.in-Some.ensures

pub returns-clause-picks : goal.returns-clause-picks
returns-clause-picks c = ap expand c.in_ok-push.ensures.items ∙ expand-push c.args.runs.now.items c.args.run
