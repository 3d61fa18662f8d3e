use Rattle.sel_runs.proofs.RunLists.{joined_nulls, joined_rows}
use Rattle.sel_runs.proofs.runs.joined.Goals as goal

pub returns-in-None-None : goal.returns-in-None-None
returns-in-None-None c = joined_nulls c.args.first c.args.second c.in-None-None.is-0 c.in-None-None.is-1

pub returns-then-end-second : goal.returns-then-end-second
returns-then-end-second c =
    joined_rows c.args.first c.args.second _ _ c.in-Some-Some.is-0 c.in-Some-Some.is-1 c.if-one-other.true c.if-end-second.true
