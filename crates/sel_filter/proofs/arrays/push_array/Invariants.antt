-- The items so far follow the initial items.
use Rattle.sel_filter.proofs.Common.{◌≡◌, ◌+◌, ◌++◌, take, vec_len, vec_capacity}
use Rattle.sel_filter.proofs.arrays.push_array.Given as goal

abbrev pub invariant-loop-i : goal.invariant-loop-i
invariant-loop-i g l = record {
  items : l.out.items ≡ l.fn.out.items ++ take l.i l.array;
  count : vec_len l.out ≡ vec_len l.fn.out + l.i;
  capacity : vec_capacity l.out ≡ vec_capacity l.fn.out;
}
