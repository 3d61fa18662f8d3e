-- All values from the first block on are kept.
use Rattle.sel_filter.proofs.Common.{◌≡◌, ◌*◌, ◌++◌, ◌-◌, ◌/◌, ◌≤◌, List, length, take, drop}
use Rattle.sel_filter.specs.Blocks.{kept_of_blocks}
use Rattle.sel_filter.proofs.block.append_full.Given as goal

abbrev pub invariant-loop-end : goal.invariant-loop-end
invariant-loop-end g l = record {
  forward : l.first ≤ l.end;
  within : l.end ≤ length l.values / 64;
  full : (front old : List _) → old ≡ front ++ kept_of_blocks l.values l.bytes l.first
      → old ++ take (64 * l.end - 64 * l.first) (drop (64 * l.first) l.values) ≡ front ++ kept_of_blocks l.values l.bytes l.end;
}

abbrev pub decreases-loop-end : goal.decreases-loop-end
decreases-loop-end g l = length l.values / 64 - l.end
