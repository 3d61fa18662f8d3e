-- The bits so far and what the remaining marks select are the final bits.
use Rattle.sel_filter.proofs.Common.{◌≡◌, ◌+◌, ◌-◌, ◌++◌, length, drop, bits, count_true, select}
use Rattle.sel_filter.proofs.Marking.{IsMarking}
use Rattle.sel_filter.proofs.boolean.append_marked.Given as goal

abbrev pub invariant-loop-marks : goal.invariant-loop-marks
invariant-loop-marks l =
    let all = l.fn.values.source.bits in
    let word = bits (length all - l.start) l.fn.word in
    (l.values.source ≡ l.fn.values.source)
    × IsMarking (drop l.start all) (l.fn.kept ++ select (drop l.start all) word) (l.fn.values.bits_read + count_true word) l.kept l.marks l.values.bits_read

abbrev pub decreases-loop-marks : goal.decreases-loop-marks
decreases-loop-marks l = l.marks
