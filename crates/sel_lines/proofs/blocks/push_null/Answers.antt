use Rattle.std.proofs.Common.{◌+◌, ◌∙◌, pos, true, false, replicate, sym, refl, arith, vec_len}
use Rattle.sel_runs.proofs.Windows.{resized}
use Rattle.sel_gather.proofs.{ItemRuns.listed_values}
use Rattle.sel_lines.proofs.{Common.length-replicate, ReadBlocks.block_more, ReadBlocks.plain_zeros}
use Rattle.sel_lines.proofs.blocks.push_null.Goals as goal

pub returns : goal.returns
returns c =
    λ read has.
    let old = c.args.blocks.now in
    let width = c.args.width in
    let values = resized old.values.items c.resize.new.self.items (c.len.result + width) (vec_len old.values) width (pos 0) c.in_ok-resize.ensures.items (omega (arith, old.values.ok)) (omega (arith, c.len.ensures)) in
    let flags = resized old.flags.items c.resize-2.new.self.items (c.len-2.result + width) (vec_len old.flags) width true c.in_ok-resize-2.ensures.items (omega (arith, old.flags.ok)) (omega (arith, c.len-2.ensures)) in
    block_more width read old _ _ (replicate width (pos 0)) (replicate width true) false has
    (length-replicate width true ∙ sym (length-replicate width (pos 0))) values flags
    c.in_ok-push.ensures.items refl (plain_zeros width ∙ sym (listed_values _)) refl
