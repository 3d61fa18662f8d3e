use Rattle.std.proofs.Common.{◌≡◌, ◌<◌, [], ◌∷◌, ◌++◌, ap, sym, subst, ◌∙◌, length, map, take, arith}
use Rattle.sel_text.proofs.Common.{take_all, take_more, IsFault, binary_fault, masked, of_large_binary, Bytes, rows_read, exceeds_limit, all_items}
use Rattle.sel_text.proofs.OffsetsBelow.{Holds, count_between, end_kept, ends_inside, holds_more, no_offsets_fault, offsets_read, parts_between}
use Rattle.sel_text.proofs.{Refusals.binary_told, Refusals.makes_told, Refusals.memory_told, Within.rows_few, RowRuns.count_rows, RowRuns.next_of}
use Rattle.sel_text.proofs.Shown.{bytes_shown, of_binary, rows_count, stored_in}
use Rattle.sel_text.proofs.build.pieces.Goals as goal

pub loop-preserved : goal.loop-preserved
loop-preserved c =
    let items = all_items c.args.items.now in
    let next = next_of items c.loop.counter c.next.result _ (sym c.loop.invariant.0 ∙ c.next.ensures) in
    let more = take_more items c.loop.counter c.next.result next.inside ∙ ap (λ item. take c.loop.counter items ++ item ∷ []) (sym next.is) in
    let small : c.len.result < 9223372036854775808 = omega (arith, c.len.ensures, c.extend_from_slice.new.self.ok, c.extend_from_slice.new.self.small) in
    let long : c.len.result ≡ length c.extend_from_slice.new.self.items = omega (arith, c.len.ensures, c.extend_from_slice.new.self.ok) in
    let put = c.in_ok-extend_from_slice.ensures.items ∙ ap (λ l. c.loop.bytes.items ++ l) c.bytes_in.ensures in
    (next.others, holds_more (stored_in c.args.beneath) _ _ c.next.result _ _ _ _ _ c.len.result c.loop.invariant.1 more put c.in_ok-push.ensures.items (end_kept c.in_ok-offset_at.field-0 c.len.result c.in_ok-offset_at.ensures.value small) long)

pub returns-in_err-offsets : goal.returns-in_err-offsets
returns-in_err-offsets c = λ fit.
    let rows = rows_read (all_items c.args.items.now) in
    let kept = no_offsets_fault (stored_in c.args.beneath) _ _ c.loop.ends.items c.loop.invariant.1 in
    makes_told c.args.beneath of_large_binary rows c.from_residual-in_err-offsets.result c.in_err-offsets.field-0.0 c.from_residual-in_err-offsets.ensures.1
    (memory_told (exceeds_limit c.args.beneath of_large_binary rows) _ c.in_err-offsets.field-0.0 kept c.in_err-offsets.ensures.refusal)

pub returns-in_err-try_new : goal.returns-in_err-try_new
returns-in_err-try_new c = λ fit.
    let items = all_items c.args.items.now in
    let below = stored_in c.args.beneath in
    let offsets = c.in_ok-offsets.offsets in
    let counted = c.in_ok-count.ensures.count ∙ count_rows c.args.items.now in
    let so = subst (λ l. Holds below l c.loop.bytes.items c.loop.ends.items) (take_all c.loop.counter items (omega (arith, counted))) c.loop.invariant.1 in
    let are = offsets_read below items _ _ offsets so c.in_ok-offsets.ensures.value in
    let inside = ends_inside below items offsets are (length c.in_ok-bytes.bytes) (ap length (c.in_ok-bytes.ensures.items ∙ so.entries_are)) in
    let fallen = subst (λ o. IsFault (binary_fault o c.in_ok-bytes.bytes c.in_ok-validity_of.field-0) c.in_err-try_new.field-0.0) c.offsets.view_is c.in_err-try_new.ensures.refused in
    makes_told c.args.beneath of_large_binary (rows_read items) c.from_residual-in_err-try_new.result c.in_err-try_new.field-0.0 c.from_residual-in_err-try_new.ensures.1
    (binary_told c.args.beneath of_large_binary (rows_read items) offsets c.in_ok-bytes.bytes c.in_ok-validity_of.field-0 c.in_err-try_new.field-0.0
    (count_between below items offsets are ∙ sym (rows_count items)) inside c.in_ok-validity_of.ensures.covers fallen)

pub returns : goal.returns
returns c = λ fit.
    let items = all_items c.args.items.now in
    let below = stored_in c.args.beneath in
    let column = c.in_ok-try_new.field-0 in
    let counted = c.in_ok-count.ensures.count ∙ count_rows c.args.items.now in
    let so = subst (λ l. Holds below l c.loop.bytes.items c.loop.ends.items) (take_all c.loop.counter items (omega (arith, counted))) c.loop.invariant.1 in
    let are = c.in_ok-try_new.ensures.offsets ∙ c.offsets.view_is ∙ offsets_read below items _ _ c.in_ok-offsets.offsets so c.in_ok-offsets.ensures.value in
    let held = parts_between below items _ are column.values (c.in_ok-try_new.ensures.values ∙ c.in_ok-bytes.ensures.items ∙ so.entries_are) in
    let made = c.into_ref.ensures.rows ∙ ap (λ l. masked column.validity (map Bytes l)) held ∙ ap (λ v. masked v (map Bytes (map below items))) c.in_ok-try_new.ensures.validity
    ∙ c.in_ok-validity_of.ensures.hides (map Bytes (map below items)) (bytes_shown of_large_binary of_binary c.args.beneath items fit) in
    (c.into_ref.ensures.dtype, made, rows_few c.into_ref.result (rows_read items) made)
