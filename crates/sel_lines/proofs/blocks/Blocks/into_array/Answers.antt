use Rattle.std.proofs.Common.{◌≡◌, ◌∙◌, ◌*◌, map, ap, arith, length, sym}
use Rattle.sel_lines.proofs.Common.{length-map, hidden, rows, row_count, Number, is_valid, joined_items, standing_for}
use Rattle.sel_lines.proofs.{MadeColumns.block_sound, MadeColumns.memory_alone, ReadBlocks.blocks_made, ReadBlocks.standing_length}
use Rattle.sel_arrow.proofs.NestedRows.{length-rows}
use Rattle.sel_lines.proofs.blocks.Blocks.into_array.Goals as goal

pub returns-in-Ok-clause-rows : goal.returns-in-Ok-clause-rows
returns-in-Ok-clause-rows c =
    λ read has.
    rw (c.in-Ok.ensures.size, c.in-Ok.ensures.len, c.in-Ok.ensures.values, c.in-Ok.ensures.validity)
    (blocks_made c.args.width c.len-len.result read c.args.self (rows c.in_ok-items.items.column) c.in_ok-validity.validity has
    (omega (arith, c.len-len.ensures, c.args.self.validity.ok))
    (c.in_ok-items.ensures.rows ∙ ap (λ flags. hidden flags (map Number c.args.self.values.items)) c.deref-2.ensures.value)
    (ap (λ b. b.bits) c.in_ok-validity.ensures ∙ c.deref.ensures.value))

pub memory_error_after-requires : goal.memory_error_after-requires
memory_error_after-requires c =
    let blocks = c.args.self in
    let width = c.args.width in
    let read = c.requires.kept.0 in
    let has = c.requires.kept.1 in
    let items = c.in_ok-items.items.column in
    let shown : rows items ≡ joined_items width (map (standing_for width) read) = c.in_ok-items.ensures.rows ∙ ap (λ flags. hidden flags (map Number blocks.values.items)) c.deref-2.ensures.value ∙ has.items in
    let len : c.len-len.result ≡ length blocks.validity.items = omega (arith, c.len-len.ensures, blocks.validity.ok) in
    let many : length blocks.validity.items ≡ length read = ap length has.valid ∙ length-map read is_valid in
    let count : row_count items ≡ length read * width = sym (length-rows items) ∙ ap length shown ∙ standing_length width read has.all in
    let fills : row_count items ≡ c.len-len.result * width = count ∙ ap (λ n. n * width) (sym (len ∙ many)) in
    let valid = ap (λ b. length b.bits) c.in_ok-validity.ensures ∙ ap length c.deref.ensures.value ∙ sym len in
    memory_alone _ c.in-Err.fault (block_sound width c.len-len.result (row_count items) c.in_ok-validity.validity (omega (arith, len, many, c.requires.kept.2.rows)) (omega (arith, c.requires.narrow)) fills valid) c.in-Err.ensures.refused
