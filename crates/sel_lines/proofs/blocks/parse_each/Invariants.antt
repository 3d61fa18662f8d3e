-- Loop invariant: the rows so far, and the parts that store them.
use Rattle.std.proofs.Common.{◌≡◌, List, map, take, Some}
use Rattle.sel_lines.proofs.Common.{Value, block_of, HasBlocks, all_some}
use Rattle.sel_lines.proofs.blocks.parse_each.Given as goal

abbrev pub invariant-loop-word : goal.invariant-loop-word
invariant-loop-word l =
    (read : List Value) × (all_some (map (λ word. block_of l.width word.now) (take l.word-index l.words)) ≡ Some read) × HasBlocks l.width read l.blocks
