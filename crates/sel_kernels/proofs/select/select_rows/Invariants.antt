-- Loop invariant: the columns so far.
use Rattle.sel_kernels.proofs.Common.{vec_len, vec_capacity, ◌≡◌, ◌≤◌, length, map, take, boolean_rows, primitive_rows, rows, type_of, take_rows, select}
use Rattle.sel_kernels.proofs.Common.{effective_mask}
use Rattle.sel_kernels.proofs.select.select_rows.Given as goal

abbrev pub invariant-loop-column : goal.invariant-loop-column
invariant-loop-column l = record {
  taken : map (λ c. rows c.column) l.selected.items
      ≡ map (λ c. take_rows (select (rows c.column) (effective_mask (boolean_rows l.mask))) (primitive_rows l.indices)) (take l.column-index l.columns);
  types : map (λ c. type_of c.column) l.selected.items ≡ map (λ c. type_of c.column) (take l.column-index l.columns);
  count : vec_len l.selected ≡ l.column-index;
  room : length l.columns ≤ vec_capacity l.selected;
}
