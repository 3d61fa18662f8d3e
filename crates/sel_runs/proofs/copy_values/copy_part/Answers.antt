use Rattle.sel_runs.proofs.{Common.◌+◌, Common.◌-◌, Common.drop, Common.arith}
use Rattle.sel_runs.proofs.Windows.{cut_behind}
use Rattle.sel_runs.proofs.copy_values.copy_part.Goals as goal

pub returns-then-from-start-ge-SHORT_RUN-clause-values : goal.returns-then-from-start-ge-SHORT_RUN-clause-values
returns-then-from-start-ge-SHORT_RUN-clause-values g c =
    let from = drop c.args.start c.args.from.now in
    cut_behind c.args.values.now.items from c.truncate.new.self.items c.push_eight.new.out.items ((c.args.start + 8) - c.args.start) c.args.len c.len-before.result c.push_eight.ensures.items c.truncate.ensures.items (omega arith) (omega (arith, c.if-len-le-SHORT_RUN.true))
