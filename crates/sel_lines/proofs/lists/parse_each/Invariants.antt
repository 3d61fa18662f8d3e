-- Loop invariant: the rows so far, and the parts that store them.
use Rattle.std.proofs.Common.{◌≡◌, List, map, take, Some}
use Rattle.sel_lines.proofs.Common.{Value, all_some, list_of_word, HasRead}
use Rattle.sel_lines.proofs.lists.parse_each.Given as goal

abbrev pub invariant-loop-word : goal.invariant-loop-word
invariant-loop-word l = (read : List Value) × (all_some (map (λ word. list_of_word word.now) (take l.word-index l.words)) ≡ Some read) × HasRead read l.lists
