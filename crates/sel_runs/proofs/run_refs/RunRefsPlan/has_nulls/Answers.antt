use Rattle.sel_runs.proofs.{Common.All-append, Common.IsPicked, Common.unrolled}
use Rattle.sel_runs.proofs.RunLists.{run_picked}
use Rattle.sel_runs.proofs.run_refs.RunRefsPlan.has_nulls.Goals as goal

pub returns-in-Some : goal.returns-in-Some
returns-in-Some g c =
    let refs = c.args.self.now in
    λ e. All-append IsPicked (unrolled refs.first) (g.R.Runs.picks refs.rest) (run_picked refs.first _ c.in-Some.is) (c.has_nulls.ensures e)
