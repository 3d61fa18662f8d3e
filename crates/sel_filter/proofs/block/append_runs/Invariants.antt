-- The items so far and what the remaining bits select are the final items.
use Rattle.sel_filter.proofs.Common.{◌++◌, bits, select}
use Rattle.sel_bits.specs.Copying.{IsBeginning}
use Rattle.sel_filter.proofs.Running.{IsRunning}
use Rattle.sel_filter.proofs.block.append_runs.Given as goal

abbrev pub invariant-loop-rest : goal.invariant-loop-rest
invariant-loop-rest g l = record {
  begun : IsBeginning l.fn.out.items l.out.items;
  running : IsRunning l.block (l.fn.out.items ++ select l.block (bits 64 l.mask)) l.out.items l.at l.rest;
}

abbrev pub decreases-loop-rest : goal.decreases-loop-rest
decreases-loop-rest g l = l.rest
