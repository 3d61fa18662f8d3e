use Rattle.sel_kernels.proofs.{Common.primitive_rows, BlockTakes.begun}
use Rattle.sel_kernels.proofs.gather.fixed_size_list.take_blocks.Goals as goal

pub returns-in_err-take_block-clause-beginning : goal.returns-in_err-take_block-clause-beginning
returns-in_err-take_block-clause-beginning g c =
    begun c.args.size c.args.zero c.args.out.now.source c.args.out.now.items c.take_block.new.out.items (primitive_rows c.args.indices.now) c.loop-k.k
    (rw c.in_err-take_block.ensures.unchanged c.loop-k.invariant.items)
