-- Loop invariant: the columns so far.
use Rattle.std.proofs.Common.{◌≡◌, ◌≤◌, All, Some, length, map, take, vec_len, vec_capacity}
use Rattle.sel_lines.proofs.Common.{type_of, of_int64, all_some, column_of, number_of, rows_of_arrays}
use Rattle.sel_lines.proofs.table.parse_columns.Given as goal

abbrev pub invariant-loop-word : goal.invariant-loop-word
invariant-loop-word l = record {
  read : all_some (map (λ word. column_of number_of word.now) (take l.word-index l.words)) ≡ Some (rows_of_arrays l.columns.items);
  numbers : All (λ c. type_of c.column ≡ of_int64) l.columns.items;
  count : vec_len l.columns ≡ l.word-index;
  room : length l.words ≤ vec_capacity l.columns;
}
