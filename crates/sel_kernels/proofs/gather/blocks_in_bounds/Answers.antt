use Rattle.sel_kernels.proofs.Common.{◌∙◌, ◌<◌, sym, ap, arith, primitive_rows, blocks_within}
use Rattle.sel_kernels.proofs.Takes.{blocks_test, empty_blocks}
use Rattle.sel_kernels.proofs.gather.blocks_in_bounds.Goals as goal

pub returns-then-size-eq0 : goal.returns-then-size-eq0
returns-then-size-eq0 c =
    let indices = c.args.indices.now in
    sym (ap (λ size. blocks_within size c.args.len (primitive_rows indices)) c.if-size-eq0.true ∙ empty_blocks c.args.len indices.values indices.validity)

pub returns : goal.returns
returns c =
    let some : 0 < c.args.size = omega (arith, c.if-size-eq0.false) in
    c.indices_in_bounds.ensures ∙ blocks_test c.args.size c.args.len (primitive_rows c.args.indices.now) some
