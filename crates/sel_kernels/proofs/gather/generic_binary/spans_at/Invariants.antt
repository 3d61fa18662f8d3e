-- Loop invariant: the offsets and the starts of the rows so far, and capacity for the rest.
use Rattle.sel_kernels.proofs.Common.{◌≡◌, ◌+◌, ◌≤◌, ◌∷◌, length, map, pos, take, primitive_rows, ends_from, bytes_needed, take_rows, vec_len, vec_capacity}
use Rattle.sel_kernels.specs.Spans.{plain_rows, AreStarts}
use Rattle.sel_kernels.proofs.gather.generic_binary.spans_at.Given as goal

abbrev pub invariant-loop-k : goal.invariant-loop-k
invariant-loop-k g l =
    let rows = take_rows (plain_rows l.values) (primitive_rows l.indices) in
    record {
      ends : map g.O.NativeType.number l.ends.items ≡ map pos (0 ∷ ends_from 0 (take l.k rows));
      starts : AreStarts g.S.NativeType.number l.values.values (take l.k rows) l.starts.items;
      count : l.end ≡ bytes_needed (take l.k rows);
      most : l.end ≤ l.most;
      ends_count : vec_len l.ends ≡ l.k + 1;
      ends_room : length l.places + 1 ≤ vec_capacity l.ends;
      starts_count : vec_len l.starts ≡ l.k;
      starts_room : length l.places ≤ vec_capacity l.starts;
    }
