use Rattle.sel_gather.proofs.Common.{◌≡◌, ◌++◌, ◌∙◌, ap, arith, rules, take_all}
use Rattle.sel_gather.proofs.view.push_buffers.Goals as goal

pub returns-clause-buffers : goal.returns-clause-buffers
returns-clause-buffers c =
    let same : c.reserve.new.self.items ≡ c.args.joined.now.items = search rules in
    c.loop-buffer.invariant ∙ ap (λ l. c.reserve.new.self.items ++ l) (take_all c.loop-buffer.buffer-index c.args.buffers.now (omega (arith, c.loop-buffer-test.false))) ∙ ap (λ l. l ++ c.args.buffers.now) same
