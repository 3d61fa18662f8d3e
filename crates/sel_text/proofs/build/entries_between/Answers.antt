use Rattle.std.proofs.Common.{◌≡◌, ◌<◌, take, length, ◌∙◌, ap, sym, subst, arith}
use Rattle.sel_text.proofs.Common.{length-map, offsets_below, item_value, rows_read, entries_in, IsMemoryFault, all_items}
use Rattle.sel_text.proofs.{ItemRows.one_more, ItemRows.all_read, Making.maker_wanting, RowRuns.count_rows, RowRuns.next_of}
use Rattle.sel_text.proofs.OffsetsBelow.{end_kept, holds_more, no_offsets_fault, offsets_read}
use Rattle.sel_text.proofs.build.entries_between.Goals as goal

pub loop-preserved : goal.loop-preserved
loop-preserved c =
    let items = all_items c.args.items.now in
    let next = next_of items c.loop.counter c.next.result _ (sym c.loop.invariant.0 ∙ c.next.ensures) in (
      next.others,
      λ none.
          let below = entries_in c.args.beneath in
          let before = rows_read (take c.loop.counter (all_items c.args.items.now)) in
          let row = item_value c.next.result.now in
          let more = one_more items c.loop.counter c.next.result next.inside next.is in
          let small : c.len.result < 9223372036854775808 = omega (arith, c.len.ensures, c.push_below.new.entries.ok, c.push_below.new.entries.small) in
          let long : c.len.result ≡ length c.push_below.new.entries.items = omega (arith, c.len.ensures, c.push_below.new.entries.ok) in
          holds_more below before _ row _ _ _ _ _ c.len.result (c.loop.invariant.1 none) more (c.in_default.ensures.entries none) c.in_ok-push-in-Ok-offset_at.ensures.items (end_kept c.in-Ok-offset_at.end c.len.result c.in-Ok-offset_at.ensures.value small) (rw length-map long),
    )

pub returns-in-Ok-try_from-clause-offsets : goal.returns-in-Ok-try_from-clause-offsets
returns-in-Ok-try_from-clause-offsets c = λ none.
    let counted = c.in-Ok.ensures.count ∙ count_rows c.args.items.now in
    let all = all_read (all_items c.args.items.now) c.loop.counter (omega (arith, counted)) in
    offsets_read (entries_in c.args.beneath) _ _ _ c.in-Ok-try_from.offsets (c.loop.invariant.1 none) c.in-Ok-try_from.ensures.value ∙ ap (offsets_below (entries_in c.args.beneath)) all

pub returns-clause-memory : goal.returns-clause-memory
returns-clause-memory c = λ none.
    let kept = no_offsets_fault (entries_in c.args.beneath) _ _ c.loop.ends.items (c.loop.invariant.1 none) in
    subst IsMemoryFault (sym c.from.ensures) (maker_wanting _ c.in-Err-try_from.fault c.in-Err-try_from.ensures.refusal kept)
