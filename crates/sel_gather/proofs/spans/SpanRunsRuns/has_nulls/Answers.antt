use Rattle.sel_gather.proofs.ItemSpans.{spans_picked}
use Rattle.sel_gather.proofs.spans.SpanRunsRuns.has_nulls.Goals as goal

pub returns : goal.returns
returns c = let runs = c.args.self.now in λ _. spans_picked runs.starts.now runs.at runs.ends.now
