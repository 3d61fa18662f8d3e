-- Loop invariant: the blocks at the indices so far.
use Rattle.sel_kernels.proofs.Common.{◌≡◌, take, primitive_rows, block_items}
use Rattle.sel_kernels.proofs.gather.blocks.take_sized.Given as goal

abbrev pub invariant-loop-k : goal.invariant-loop-k
invariant-loop-k g l = l.taken.items ≡ block_items g.row.N l.zero l.values (take l.k (primitive_rows l.indices))
