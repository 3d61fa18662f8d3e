use Rattle.sel_gather.proofs.Common.{◌++◌, ◌∷◌, [], ◌∙◌, ap, arith, pos, w64, to_z_pos}
use Rattle.sel_runs.proofs.Windows.{repeated_more}
use Rattle.sel_gather.proofs.binary.push_same_ends.Goals as goal

pub loop-preserved : goal.loop-preserved
loop-preserved c =
    let shown = to_z_pos w64 c.args.before (omega (arith, c.requires)) in
    repeated_more c.args.ends.now.items c.loop.ends.items c.push.new.self.items c.loop.counter (pos c.args.before) c.loop.invariant
    (c.in_ok-push.ensures.items ∙ ap (λ x. c.loop.ends.items ++ x ∷ []) shown)
