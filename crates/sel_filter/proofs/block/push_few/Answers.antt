use Rattle.sel_filter.proofs.Common.{◌<◌, ◌^◌, length, length-append, arith}
use Rattle.sel_filter.proofs.{Dense.few_begin, Dense.few_left, Dense.few_pair, Dense.kept_count, Selects.few_kept}
use Rattle.sel_filter.proofs.block.push_few.Goals as goal

pub loop-rest-init : goal.loop-rest-init
loop-rest-init g c = grind (arith, few_begin, few_kept)

pub push_reserved-requires-in-loop-rest : goal.push_reserved-requires-in-loop-rest
push_reserved-requires-in-loop-rest g c =
    let block = c.args.block.now in
    let rest = c.loop-rest.rest in
    let fits : rest < 2 ^ length block = rw c.requires.block c.loop-rest.auto.rest-fits.fits in
    omega (arith, (c.loop-rest.invariant.kept.some (omega arith)).1, c.loop-rest.invariant.capacity, c.push_reserved.ensures.len, c.push_reserved.ensures.capacity, few_left block rest (omega arith) fits (omega (arith, c.requires.block)))

pub loop-rest-preserved : goal.loop-rest-preserved
loop-rest-preserved g c = grind (arith, few_pair)

pub returns : goal.returns
returns g c = grind (arith, kept_count, length-append)
