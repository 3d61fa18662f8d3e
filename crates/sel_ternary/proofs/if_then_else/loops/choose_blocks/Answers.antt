use Rattle.sel_ternary.proofs.Common.{◌≡◌, ◌+◌, ◌-◌, length, take, drop, arith}
use Rattle.std.proofs.lemmas.List.{length-take, length-drop}
use Rattle.sel_ternary.proofs.{Blocks.begun_next, Blocks.begun_within, Chosen.AsLong}
use Rattle.sel_ternary.proofs.if_then_else.loops.choose_blocks.Goals as goal

pub loop-word-preserved : goal.loop-word-preserved
loop-word-preserved g c =
    let mask = c.args.mask.now.source in
    let ts = g.C.BlockChoice.trues c.args.choice.now in
    let fs = g.C.BlockChoice.falses c.args.choice.now in
    let n = length c.args.out.now in
    let base = c.args.out.now in
    let out = c.loop-word.out in
    let at = c.loop-word.at in
    let count = c.in-Some.count in
    let long : AsLong n mask.bits ts fs = record { mask = c.requires.mask_side; trues = c.requires.true_side; falses = c.requires.false_side } in
    let next = c.in-Some.ensures in
    let was = c.loop-word.invariant in
    let size = c.loop-word.auto.out in
    let within = begun_within n mask ts fs base long c.loop-word.mask at out was size next.some count next.count in
    let width : at + count - at ≡ count = omega arith in
    let part : length (take (at + count - at) (drop at out)) ≡ count = omega (arith, length-take (at + count - at) (drop at out), length-drop at out, within, size) in
    begun_next n mask ts fs base long c.loop-word.mask at out was size next.some count next.count c.in-Some.word c.next.new.self (at + count - at) _ c.choose_block.new.out next.word next.after width part c.choose_block.ensures
