use Rattle.sel_gather.proofs.Common.{rules, IfOk-weaker}
use Rattle.sel_gather.proofs.ReadEach.{each_told}
use Rattle.sel_gather.proofs.validity.validities_of.Goals as goal

pub returns-clause-told : goal.returns-clause-told
returns-clause-told c =
    IfOk-weaker c.read_each.result _ _ (λ found each. each_told _ (λ x y k. search rules) c.args.sources.now found.items each) c.read_each.ensures.found
