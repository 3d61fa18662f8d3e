-- The items so far follow the initial items.
use Rattle.sel_runs.proofs.Common.{◌≡◌, ◌+◌, ◌++◌, take, vec_len, vec_capacity}
use Rattle.sel_runs.proofs.copy_values.push_eight.Given as goal

abbrev pub invariant-loop-i : goal.invariant-loop-i
invariant-loop-i g l = record {
  items : l.out.items ≡ l.fn.out.items ++ take l.i l.loaded;
  count : vec_len l.out ≡ vec_len l.fn.out + l.i;
  capacity : vec_capacity l.out ≡ vec_capacity l.fn.out;
}
