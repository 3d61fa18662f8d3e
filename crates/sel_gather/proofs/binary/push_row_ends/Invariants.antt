-- The ends of the rows so far are appended.
use Rattle.sel_gather.proofs.Common.{◌≡◌, ◌++◌, map, pos, take, drop, binary_rows, ends_from}
use Rattle.sel_gather.proofs.binary.push_row_ends.Given as goal

abbrev pub invariant-loop-i : goal.invariant-loop-i
invariant-loop-i l = l.ends.items ≡ l.initial.ends.items ++ map pos (ends_from l.before (take l.i (take l.len (drop l.start (binary_rows l.array)))))
