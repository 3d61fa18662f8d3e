use Rattle.std.proofs.Common.{◌≡◌, length, map, take, Some}
use Rattle.sel_lines.proofs.Common.{all_some, row_of, hidden}
use Rattle.sel_lines.proofs.columns.parse_rows.Given as goal

abbrev pub invariant-loop-word : goal.invariant-loop-word
invariant-loop-word g l = record {
  rows : all_some (map (λ word. row_of g.T.Item.value_of word.now) (take l.word-index l.words)) ≡ Some (hidden l.validity.items (map g.T.Item.shown l.values.items));
  items : length l.values.items ≡ l.word-index;
  flags : length l.validity.items ≡ l.word-index;
}
