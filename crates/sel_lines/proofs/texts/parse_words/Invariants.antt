use Rattle.std.proofs.Common.{◌≡◌, Some, map, take}
use Rattle.sel_lines.proofs.Common.{all_some, row_of, string_value, text_row}
use Rattle.sel_lines.proofs.texts.parse_words.Given as goal

abbrev pub invariant-loop-word : goal.invariant-loop-word
invariant-loop-word l = all_some (map (λ word. row_of string_value word.now) (take l.word-index l.words)) ≡ Some (map text_row l.rows.items)
