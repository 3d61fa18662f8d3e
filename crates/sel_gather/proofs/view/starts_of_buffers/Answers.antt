use Rattle.sel_gather.proofs.{Common.arith, Raising.count_more, Raising.count_room, Raising.starts_more}
use Rattle.sel_gather.proofs.view.starts_of_buffers.Goals as goal

pub overflow_add-before : goal.overflow_add-before
overflow_add-before c =
    let room = count_room (λ s. s.now.buffers) c.args.sources.now c.loop-source.source-index c.source-item.result c.loop-source-test.true c.source-item.is in
    omega (arith, c.loop-source.invariant.1, c.len.ensures, room, c.requires)

pub loop-source-preserved : goal.loop-source-preserved
loop-source-preserved c =
    let more = count_more (λ s. s.now.buffers) c.args.sources.now c.loop-source.source-index c.source-item.result c.loop-source-test.true c.source-item.is in (
      starts_more (λ s. s.now.buffers) c.args.sources.now c.loop-source.starts.items c.push.new.self.items c.loop-source.source-index c.loop-source.before c.loop-source.invariant.0 c.loop-source.invariant.1 c.in_ok-push.ensures.items,
      omega (arith, more, c.loop-source.invariant.1, c.len.ensures),
    )
