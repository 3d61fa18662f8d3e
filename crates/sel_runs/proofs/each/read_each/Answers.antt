use Rattle.sel_runs.proofs.ReadEach.{each_more}
use Rattle.sel_runs.proofs.Common.{arith, subst, take_all}
use Rattle.std.specs.List.{AllZip}
use Rattle.sel_runs.proofs.each.read_each.Goals as goal

pub loop-item-preserved : goal.loop-item-preserved
loop-item-preserved g c =
    each_more (λ s t. goal.F-post g c.args.read s t) c.args.items.now c.loop-item.found.items c.push.new.self.items c.loop-item.item-index c.item-item.result c.read.result c.loop-item-test.true c.item-item.is c.loop-item.invariant c.read.ensures c.in_ok-push.ensures.items

pub returns-clause-found : goal.returns-clause-found
returns-clause-found g c =
    subst (λ l. AllZip (λ s t. goal.F-post g c.args.read s t) l c.loop-item.found.items) (take_all c.loop-item.item-index c.args.items.now (omega (arith, c.loop-item-test.false))) c.loop-item.invariant
