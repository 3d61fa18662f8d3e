use Rattle.sel_gather.proofs.Common.{◌∙◌, IfOk-weaker, ap, arith, flat_map, take_all}
use Rattle.sel_gather.proofs.view.joined_buffers.Goals as goal

pub returns-clause-buffers : goal.returns-clause-buffers
returns-clause-buffers c =
    let all = c.loop-source.invariant ∙ ap (flat_map (λ s. s.now.buffers)) (take_all c.loop-source.source-index c.args.sources.now (omega (arith, c.loop-source-test.false))) in
    IfOk-weaker c.from_vec.result _ _ (λ b is. is ∙ all) c.from_vec.ensures.items
