use Rattle.sel_gather.proofs.Common.{◌∙◌, ap, map, List, ℕ, length, binary_rows, Null, pick, unrolled}
use Rattle.sel_gather.proofs.JoinedRows.{length-joined}
use Rattle.sel_gather.proofs.binary.count_run.Goals as goal

pub returns-clause-count : goal.returns-clause-count
returns-clause-count c =
    ap (λ (l : List ℕ). length l) c.bytes_of.ensures ∙ length-joined (pick Null (map (λ s. binary_rows s.now) c.args.sources.now) (unrolled c.args.run))
