use Rattle.sel_gather.proofs.Common.{field, rules, IfOk-weaker}
use Rattle.sel_gather.proofs.ReadEach.{each_seen}
use Rattle.sel_gather.proofs.structs.fields_at.Goals as goal

pub returns-clause-fields : goal.returns-clause-fields
returns-clause-fields c =
    IfOk-weaker c.read_each.result _ _ (λ found each. each_seen _ (λ s. field c.args.j s.now) (λ s. s.now) (λ x y k. search rules) c.args.sources.now found.items each) c.read_each.ensures.found
