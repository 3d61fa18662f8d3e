use Rattle.sel_filter.proofs.Common.{◌+◌, get_or, false, ap, ◌∙◌, arith, trailing_zeros, w64, Bits}
use Rattle.sel_filter.proofs.Marking.{mark_place, mark_bit, mark_room, marking_next, marking_last}
use Rattle.sel_filter.proofs.boolean.append_marked.Goals as goal

pub overflow_add-at : goal.overflow_add-at
overflow_add-at c = record { fits = omega (arith, mark_place c.args.values.now.source.bits _ _ _ c.args.start _ _ (omega arith) c.loop-marks.auto.marks-fits.fits c.loop-marks.invariant.1, c.requires.fits) }

pub get-requires-clause-within : goal.get-requires-clause-within
get-requires-clause-within c =
    rw c.loop-marks.invariant.0 (mark_place c.args.values.now.source.bits _ _ _ c.args.start _ _ (omega arith) c.loop-marks.auto.marks-fits.fits c.loop-marks.invariant.1)

pub get-requires-clause-counted : goal.get-requires-clause-counted
get-requires-clause-counted c = omega (arith, mark_room _ _ _ _ c.loop-marks.marks _ (omega arith) c.loop-marks.auto.marks-fits.fits c.loop-marks.invariant.1, c.requires.reads)

pub loop-marks-preserved : goal.loop-marks-preserved
loop-marks-preserved c =
    let read = mark_bit c.args.values.now.source.bits c.args.start (trailing_zeros w64 c.loop-marks.marks) c.get.result (c.get.ensures.bit ∙ ap (λ (s : Bits). get_or s.bits (c.args.start + trailing_zeros w64 c.loop-marks.marks) false) c.loop-marks.invariant.0) in
    rw (c.get.ensures.after, c.in_ok-push.ensures.pushed) (c.loop-marks.invariant.0, marking_next _ _ _ _ _ _ (omega arith) c.loop-marks.auto.marks-fits.fits c.loop-marks.invariant.1 c.get.result read)

pub returns-clause-appended : goal.returns-clause-appended
returns-clause-appended c = (marking_last _ _ _ _ _ _ (omega arith) c.loop-marks.invariant.1).0

pub returns-clause-reads : goal.returns-clause-reads
returns-clause-reads c = (marking_last _ _ _ _ _ _ (omega arith) c.loop-marks.invariant.1).1
