use Rattle.sel_runs.proofs.{Common.◌≡◌, Common.◌↔◌, Common.All, Common.false, Common.is_none, Common.rules, Common.Run}
use Rattle.sel_runs.proofs.RunLists.{named_picked}
use Rattle.sel_runs.proofs.run_refs.ListedRunsRuns.has_nulls.Goals as goal

pub returns : goal.returns
returns c =
    let runs = c.args.self.now.runs.now in
    let named : (c.any.result ≡ false) ↔ All (λ (r : Run). is_none r.source ≡ false) runs = search rules in
    λ e. named_picked runs (named.0 e)
