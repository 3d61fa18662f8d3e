-- Loop invariant: the bytes and the offsets of the rows so far, and the rows that are left.
use Rattle.std.proofs.Common.{◌≡◌, take, drop}
use Rattle.sel_text.{proofs.OffsetsBelow.Holds, proofs.Shown.stored_in, specs.RowRuns.all_items, specs.RowRuns.left}
use Rattle.sel_text.proofs.build.pieces.Given as goal

abbrev pub invariant-loop : goal.invariant-loop
invariant-loop l = (left l.rows ≡ drop l.counter (all_items l.items)) × (Holds (stored_in l.beneath) (take l.counter (all_items l.items)) l.bytes.items l.ends.items)
