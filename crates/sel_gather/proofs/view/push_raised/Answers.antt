use Rattle.sel_gather.proofs.Common.{◌≡◌, ◌+◌, ◌-◌, ◌++◌, ◌∙◌, ap, sym, arith, take, drop, raised}
use Rattle.sel_gather.proofs.Raising.{raised_more, unraised}
use Rattle.sel_gather.proofs.view.push_raised.Goals as goal

pub returns-then-before-eq0-clause-views : goal.returns-then-before-eq0-clause-views
returns-then-before-eq0-clause-views c =
    let len : c.args.start + c.args.len - c.args.start ≡ c.args.len = omega arith in
    c.in_ok-extend_from_slice.ensures.items
    ∙ ap (λ n. c.args.views.now.items ++ take n (drop c.args.start c.as_slice-all.result.now)) len
    ∙ ap (λ l. c.args.views.now.items ++ take c.args.len (drop c.args.start l)) c.as_slice-all.ensures
    ∙ ap (λ l. c.args.views.now.items ++ l) (sym (unraised (take c.args.len (drop c.args.start c.args.from.now.views)) c.args.before c.if-before-eq0.true))

pub loop-i-preserved : goal.loop-i-preserved
loop-i-preserved c =
    raised_more (λ v. raised v c.args.before) c.args.views.now.items c.loop-i.views.items c.push.new.self.items c.args.from.now.views c.as_slice-all.result.now c.args.start c.loop-i.i _ c.raised_view.result
    (omega (arith, c.requires.inside, c.loop-i-test.true)) c.loop-i.invariant c.as_slice-all.ensures c.raised_view.ensures c.in_ok-push.ensures.items
