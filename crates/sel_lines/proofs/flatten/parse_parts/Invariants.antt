use Rattle.std.proofs.Common.{◌≡◌, Some, map, take}
use Rattle.sel_lines.proofs.Common.{all_some, flatten_part, read_part}
use Rattle.sel_lines.proofs.flatten.parse_parts.Given as goal

abbrev pub invariant-loop-word : goal.invariant-loop-word
invariant-loop-word l = all_some (map (λ word. flatten_part word.now) (take l.word-index l.words)) ≡ Some (map read_part l.parts.items)
