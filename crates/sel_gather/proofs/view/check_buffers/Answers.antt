use Rattle.sel_gather.proofs.{Common.arith, Common.refl, Raising.count_room}
use Rattle.sel_gather.proofs.view.check_buffers.Goals as goal

pub returns-then-count-gt-MOST_BUFFERS-clause-refusal : goal.returns-then-count-gt-MOST_BUFFERS-clause-refusal
returns-then-count-gt-MOST_BUFFERS-clause-refusal c =
    let room = count_room (λ s. s.now.buffers) c.args.sources.now c.loop-source.source-index c.source-item.result c.loop-source-test.true c.source-item.is in
    (refl, omega (arith, c.loop-source.invariant.0, c.len-count.ensures, c.if-count-gt-MOST_BUFFERS.true, room))
