use Rattle.sel_gather.proofs.{Common.expand, NullItems.null_picks}
use Rattle.sel_gather.proofs.null.collect_null.Goals as goal

pub returns-clause-rows : goal.returns-clause-rows
returns-clause-rows c = null_picks c.args.sources.now (expand c.args.runs.now) c.args.len c.requires.alike c.requires.len
