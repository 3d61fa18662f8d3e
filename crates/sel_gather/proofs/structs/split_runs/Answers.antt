use Rattle.sel_gather.proofs.{Common.◌∙◌, Common.cleared, Common.expand, Common.length-map, ItemRuns.rows_of, ValidBytes.cleared_near}
use Rattle.sel_gather.proofs.NearRows.{near_may}
use Rattle.sel_gather.proofs.structs.split_runs.Goals as goal

pub invariant_of-rows : goal.invariant_of-rows
invariant_of-rows c = record { count = c.requires.may.len; few = c.requires.may.few; near = near_may c.args.sources.now (expand c.args.runs.now) c.args.len c.requires.may }

pub invariant_of-live-2 : goal.invariant_of-live-2
invariant_of-live-2 c =
    let xss = rows_of c.args.sources.now in
    let ps = expand c.args.runs.now in
    record { count = length-map ps (cleared xss) ∙ c.requires.may.len; few = c.requires.may.few; near = cleared_near xss ps (near_may c.args.sources.now ps c.args.len c.requires.may) }
