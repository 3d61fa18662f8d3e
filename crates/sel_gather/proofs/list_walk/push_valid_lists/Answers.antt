use Rattle.sel_gather.proofs.Common.{◌≡◌, ◌≤◌, ◌∙◌, ◌+◌, ◌-◌, ◌<◌, arith, ℕ, ap, pos, w64, get_or, to_z_pos}
use Rattle.sel_gather.{specs.ItemPicks.moved_end, proofs.ValidLists.pushed_end}
use Rattle.sel_gather.proofs.Common.{◌++◌, map, range_with_len}
use Rattle.sel_gather.proofs.list_walk.push_valid_lists.Goals as goal

pub loop-i-preserved : goal.loop-i-preserved
loop-i-preserved c =
    let off = c.args.offsets.now in
    let run = c.args.run in
    let f : ℕ → ℕ = moved_end off run.start c.args.start in
    let j = (run.start + 1) + c.loop-i.i in
    let top : get_or off j 0 ≤ get_or off (run.start + run.len) 0 = c.at-first.ensures.rising.rising j (run.start + run.len) (omega (arith, c.loop-i-test.true)) (omega (arith, c.requires.inside)) in
    let end = c.args.start + (c.at-in-loop-i.result - c.at-first.result) in
    let is : end ≡ f j = omega (arith, c.at-in-loop-i.ensures.value, c.at-first.ensures.value) in
    let small : end < 9223372036854775808 = omega (arith, is, top, c.requires.few) in
    record { ends = pushed_end f c.args.ends.now.items _ _ _ (run.start + 1) c.loop-i.i c.loop-i.invariant.ends c.in_ok-push.ensures.items (to_z_pos w64 end small ∙ ap pos is) }

pub returns-clause-ends : goal.returns-clause-ends
returns-clause-ends c =
    let run = c.args.run in
    let all : c.loop-i.i ≡ run.len = omega arith in
    c.loop-i.invariant.ends ∙ ap (λ n. c.args.ends.now.items ++ map pos (map (moved_end c.args.offsets.now run.start c.args.start) (range_with_len (run.start + 1) n))) all
