-- The kept values of the blocks so far follow the initial items.
use Rattle.sel_filter.proofs.Common.{◌≡◌, ◌++◌, ◌-◌, ◌/◌, ◌≤◌, List, length}
use Rattle.sel_filter.specs.Blocks.{kept_of_blocks}
use Rattle.sel_filter.proofs.block.push_mixed.Given as goal

abbrev pub invariant-loop-block : goal.invariant-loop-block
invariant-loop-block g l = record {
  forward : l.first ≤ l.block;
  within : l.block ≤ length l.values / 64;
  kept : (front : List _) → l.fn.out.items ≡ front ++ kept_of_blocks l.values l.bytes l.first
      → l.kept.items ≡ front ++ kept_of_blocks l.values l.bytes l.block;
}

abbrev pub decreases-loop-block : goal.decreases-loop-block
decreases-loop-block g l = length l.values / 64 - l.block
