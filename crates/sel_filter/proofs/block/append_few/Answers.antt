use Rattle.sel_filter.proofs.Common.{arith}
use Rattle.sel_filter.proofs.Dense.{few_left}
use Rattle.sel_filter.proofs.block.append_few.Goals as goal

pub push_reserved-requires : goal.push_reserved-requires
push_reserved-requires g c =
    omega (arith, c.loop-rest.invariant.room, few_left c.args.block.now c.loop-rest.rest (omega arith) c.loop-rest.invariant.fits c.requires.block)
