use Rattle.sel_kernels.proofs.{Common.◌∙◌, Common.arith, Common.sym, Common.rows, Selects.kept_few, Selects.kept_fit, Selects.kept_long, Selects.kept_near}
use Rattle.sel_kernels.proofs.filter.collect_kept.Goals as goal

-- ---- the bits of the mask

pub invariant_of-plan-then-not-are_long : goal.invariant_of-plan-then-not-are_long
invariant_of-plan-then-not-are_long c =
    let mask = c.args.mask.now.bits in
    record { count = kept_long mask ∙ sym c.requires.count; few = omega (arith, c.requires.count, kept_few mask, c.requires.few); near = kept_near mask c.requires.few }

pub collect_rising-requires-clause-fits : goal.collect_rising-requires-clause-fits
collect_rising-requires-clause-fits c = kept_fit (rows c.args.column.now) c.args.mask.now.bits c.requires.long

-- ---- its runs

pub invariant_of-plan-3 : goal.invariant_of-plan-3
invariant_of-plan-3 c =
    let mask = c.args.mask.now.bits in
    record { count = kept_long mask ∙ sym c.requires.count; few = omega (arith, c.requires.count, kept_few mask, c.requires.few); near = kept_near mask c.requires.few }

pub collect_plan-requires-clause-fits : goal.collect_plan-requires-clause-fits
collect_plan-requires-clause-fits c = kept_fit (rows c.args.column.now) c.args.mask.now.bits c.requires.long
