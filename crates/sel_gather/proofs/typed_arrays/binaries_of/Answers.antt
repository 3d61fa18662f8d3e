use Rattle.sel_gather.proofs.Common.{rows, binary_rows, rules, IfOk-weaker}
use Rattle.sel_gather.proofs.ReadEach.{each_seen}
use Rattle.sel_gather.proofs.typed_arrays.binaries_of.Goals as goal

pub returns-clause-rows : goal.returns-clause-rows
returns-clause-rows c =
    IfOk-weaker c.read_each.result _ _ (λ found each. each_seen _ (λ s. rows s.now) (λ s. binary_rows s.now) (λ x y k. search rules) c.args.sources.now found.items each) c.read_each.ensures.found
