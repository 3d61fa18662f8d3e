use Rattle.sel_filter.proofs.Common.{◌≡◌, arith, after_word}
use Rattle.sel_bits.specs.Reading.{after_zeros}
use Rattle.sel_filter.proofs.Filtering.{marked_reads, filtered_next}
use Rattle.sel_filter.proofs.boolean.filter_boolean_kernel_sparse.Goals as goal

pub append_marked-requires-clause-reads : goal.append_marked-requires-clause-reads
append_marked-requires-clause-reads c =
    let next = c.next_after_zeros in
    let some = c.in_default-Some in
    rw some.word-is (omega (arith, c.len-whole.ensures, marked_reads _ _ _ _ _ _ c.loop-zeros.invariant next.result.0 next.ensures.skipped next.ensures.zeros some.word some.count (rw some.is-1 at next.ensures.word) (rw some.is-1 at next.ensures.count)))

pub loop-zeros-preserved : goal.loop-zeros-preserved
loop-zeros-preserved c =
    let next = c.next_after_zeros in
    let some = c.in_default-Some in
    let after : next.new.self ≡ after_word (after_zeros c.loop-zeros.mask next.result.0) = rw some.is-1 at next.ensures.after in
    let reads = rw some.word-is at c.in_ok-append_marked.ensures.reads in
    rw (c.in_ok-append_marked.ensures.appended, some.word-is, some.count-is, after)
    (filtered_next _ _ _ _ _ _ c.loop-zeros.invariant next.result.0 next.ensures.skipped next.ensures.zeros some.word some.count (rw some.is-1 at next.ensures.word) (rw some.is-1 at next.ensures.count) c.append_marked.new.values c.in_ok-append_marked.ensures.source reads)
