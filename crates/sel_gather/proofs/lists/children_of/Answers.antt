use Rattle.sel_gather.proofs.Common.{child, rules, IfOk-weaker}
use Rattle.sel_gather.proofs.ReadEach.{each_seen}
use Rattle.sel_gather.proofs.lists.children_of.Goals as goal

pub returns-clause-children : goal.returns-clause-children
returns-clause-children c =
    IfOk-weaker c.read_each.result _ _ (λ found each. each_seen _ (λ s. child s.now) (λ s. s.now) (λ x y k. search rules) c.args.sources.now found.items each) c.read_each.ensures.found
