use Rattle.std.proofs.Common.{◌++◌, ◌∙◌, true, ap, sym, refl}
use Rattle.sel_gather.proofs.ItemRuns.{listed_values}
use Rattle.sel_lines.proofs.ReadBlocks.{block_more}
use Rattle.sel_lines.proofs.blocks.push_list.Goals as goal

pub returns : goal.returns
returns c =
    λ read has.
    let old = c.args.blocks.now in
    block_more c.args.width read old _ _ c.args.items.values.items c.args.items.validity.items true has c.args.items.paired
    (c.in_ok-extend_from_slice.ensures.items ∙ ap (λ l. old.values.items ++ l) c.deref.ensures.value)
    (c.in_ok-extend_from_slice-2.ensures.items ∙ ap (λ l. old.flags.items ++ l) c.deref-2.ensures.value) c.in_ok-push.ensures.items refl
    (sym (listed_values _)) c.requires
