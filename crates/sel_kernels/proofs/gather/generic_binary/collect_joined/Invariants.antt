-- Loop invariant: the bytes of the rows so far, concatenated, and their number.
use Rattle.sel_kernels.proofs.Common.{◌≡◌, take, primitive_rows, bytes_needed, joined_bytes, take_rows}
use Rattle.sel_kernels.specs.Spans.{plain_rows}
use Rattle.sel_kernels.proofs.gather.generic_binary.collect_joined.Given as goal

abbrev pub invariant-loop-k : goal.invariant-loop-k
invariant-loop-k g l =
    let rows = take_rows (plain_rows l.values) (primitive_rows l.indices) in
    record {
      at : l.at ≡ bytes_needed (take l.k rows);
      bytes : l.joined.items ≡ joined_bytes (take l.k rows);
    }
