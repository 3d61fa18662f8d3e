-- The kept values of the blocks so far follow the initial items.
use Rattle.sel_filter.proofs.Common.{◌≡◌, ◌++◌, ◌-◌, ◌/◌, ◌≤◌, length}
use Rattle.sel_filter.specs.Blocks.{kept_of_blocks}
use Rattle.sel_filter.proofs.block.append_blocks.Given as goal

abbrev pub invariant-loop-block : goal.invariant-loop-block
invariant-loop-block g l = record {
  within : l.block ≤ length l.values / 64;
  kept : l.out.items ≡ l.fn.out.items ++ kept_of_blocks l.values l.bytes l.block;
}

abbrev pub decreases-loop-block : goal.decreases-loop-block
decreases-loop-block g l = length l.values / 64 - l.block
