use Rattle.sel_gather.proofs.{Common.expand}
use Rattle.sel_gather.proofs.NearRows.{near_may}
use Rattle.sel_gather.proofs.validity.collect_validity.Goals as goal

pub invariant_of-plan : goal.invariant_of-plan
invariant_of-plan c = record { count = c.requires.may.len; few = c.requires.may.few; near = near_may c.args.sources.now (expand c.args.runs.now) c.args.len c.requires.may }
