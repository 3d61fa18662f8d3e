-- Loop invariant: the blocks at the indices so far.
use Rattle.sel_kernels.proofs.Common.{◌≡◌, ◌++◌, take, primitive_rows, block_items}
use Rattle.sel_kernels.proofs.gather.fixed_size_list.take_blocks.Given as goal

abbrev pub invariant-loop-k : goal.invariant-loop-k
invariant-loop-k g l = record {
  source : l.out.source ≡ l.fn.out.source;
  items : l.out.items ≡ l.fn.out.items ++ block_items l.size l.zero l.fn.out.source (take l.k (primitive_rows l.indices));
  copies : l.out.copies ≡ l.k;
}
