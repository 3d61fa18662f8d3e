-- Loop invariant: the elements of the lists so far, and capacity for the rest.
use Rattle.sel_kernels.proofs.Common.{◌≡◌, ◌≤◌, None, length, map, range_with_len, element_at, number_rows, vec_len, vec_capacity}
use Rattle.sel_kernels.specs.BareElements.{bare_place}
use Rattle.sel_kernels.proofs.gather.sublist.bare_elements.values_of.Given as goal

abbrev pub invariant-loop-k : goal.invariant-loop-k
invariant-loop-k g l = record {
  items : number_rows g.T.NativeType.number l.values.items None ≡
      map (λ k. element_at (number_rows g.T.NativeType.number l.from None) (bare_place l.fn.size l.indices k)) (range_with_len 0 l.k);
  count : vec_len l.values ≡ l.k;
  room : length l.indices ≤ vec_capacity l.values;
}
