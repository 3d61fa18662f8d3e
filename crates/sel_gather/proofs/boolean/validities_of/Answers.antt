use Rattle.sel_gather.proofs.Common.{option_copied, rules, IfOk-weaker}
use Rattle.sel_gather.proofs.ReadEach.{each_seen}
use Rattle.sel_gather.proofs.boolean.validities_of.Goals as goal

pub returns-clause-maps : goal.returns-clause-maps
returns-clause-maps c =
    IfOk-weaker c.read_each.result _ _ (λ found each. each_seen _ (λ s. s.now.validity) (option_copied) (λ x y k. search rules) c.args.arrays.now found.items each) c.read_each.ensures.found
