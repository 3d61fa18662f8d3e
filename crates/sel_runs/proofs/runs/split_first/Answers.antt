use Rattle.sel_runs.proofs.Common.{◌∙◌, ◌+◌, ◌-◌, ◌%◌, ◌^◌, ◌∷◌, ap, unrolled_from}
use Rattle.sel_runs.proofs.PlanRuns.{first_of, next_pick}
use Rattle.sel_runs.proofs.runs.split_first.Goals as goal

pub returns-in-Some : goal.returns-in-Some
returns-in-Some c =
    let r = c.args.run in
    next_pick r.source r.start r.len c.requires.some c.requires.near
    ∙ ap (λ o. first_of o r.start ∷ unrolled_from r.source ((r.start + 1) % 2 ^ 32) (r.len - 1)) c.in-Some.is

pub returns-in-None : goal.returns-in-None
returns-in-None c =
    let r = c.args.run in
    next_pick r.source r.start r.len c.requires.some c.requires.near
    ∙ ap (λ o. first_of o r.start ∷ unrolled_from r.source ((r.start + 1) % 2 ^ 32) (r.len - 1)) c.in-None.is
