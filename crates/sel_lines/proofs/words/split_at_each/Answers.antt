use Rattle.std.proofs.{Common.◌∙◌, Common.ap, Common.map, lemmas.Iterator.Consumers.YieldsList-end, lemmas.Iterator.Splits.YieldsList-from_str_split}
use Rattle.std.specs.Str.Iter.{split_text, split_has_more, split_pattern}
use Rattle.sel_lines.proofs.Pieces.{cut_count, cut_lengths}
use Rattle.sel_lines.proofs.words.split_at_each.Goals as goal

-- The loop has visited all parts of the text.
pub returns : goal.returns
returns c =
    let same = c.into_iter-part-iterator.ensures.into_iter_gives in
    let split = c.split-part-items.ensures in
    let all = YieldsList-from_str_split c.args.separator c.args.text.now c.requires (ap split_text same ∙ split.text) (ap split_has_more same ∙ split.has_more) (ap split_pattern same ∙ split.pattern) in
    let t = YieldsList-end all c.loop-part.yielded _ c.loop-part.yielded_by _ _ c.in-None.is c.next.ensures.steps in
    let cut = ap (map (λ part. part.now)) c.loop-part.invariant ∙ t.0 in
    record { parts = cut; count = cut_count _ c.args.text.now c.loop-part.parts.items cut; lengths = cut_lengths _ c.args.text.now c.loop-part.parts.items cut }
