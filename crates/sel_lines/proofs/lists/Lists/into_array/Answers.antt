use Rattle.std.proofs.Common.{◌≡◌, ◌∙◌, ◌∷◌, ℤ, map, ap, length, sym}
use Rattle.sel_lines.proofs.Common.{hidden, rows, row_count, Number, joined_items, item_ends}
use Rattle.sel_lines.proofs.{MadeColumns.list_sound, MadeColumns.memory_alone, ReadLists.lists_made}
use Rattle.sel_arrow.proofs.NestedRows.{length-rows}
use Rattle.sel_gather.proofs.{JoinedRows.map_same, JoinedRows.offsets_of, JoinedRows.same_numbers, Rebuilt.rising_ends}
use Rattle.sel_lines.proofs.lists.Lists.into_array.Goals as goal

pub of_rising-requires : goal.of_rising-requires
of_rising-requires c =
    let ends = c.args.self.ends.items in
    let read = c.requires.0 in
    offsets_of (λ (x : ℤ). x) ends (0 ∷ item_ends 0 read) (map_same ends ∙ c.requires.1.ends) (rising_ends read)

pub returns-in-Ok-try_new-clause-rows : goal.returns-in-Ok-try_new-clause-rows
returns-in-Ok-try_new-clause-rows c =
    λ read has.
    rw (c.in-Ok-try_new.ensures.offsets, c.in-Ok-try_new.ensures.values, c.in-Ok-try_new.ensures.validity)
    (lists_made read c.args.self c.in-Ok.offsets (rows c.in_ok-items.items.column) c.in_ok-validity.validity has
    (sym c.in-Ok.ensures.value ∙ map_same c.args.self.ends.items)
    (c.in_ok-items.ensures.rows ∙ ap (λ flags. hidden flags (map Number c.args.self.values.items)) c.deref-2.ensures.value)
    (ap (λ b. b.bits) c.in_ok-validity.ensures ∙ c.deref.ensures.value))

pub memory_error_after-requires : goal.memory_error_after-requires
memory_error_after-requires c =
    let lists = c.args.self in
    let read = c.requires.0 in
    let has = c.requires.1 in
    let items = c.in_ok-items.items.column in
    let offsets : c.in-Ok.offsets ≡ 0 ∷ item_ends 0 read = same_numbers c.in-Ok.offsets (0 ∷ item_ends 0 read) (sym c.in-Ok.ensures.value ∙ map_same lists.ends.items ∙ has.ends) in
    let shown : rows items ≡ joined_items 0 read = c.in_ok-items.ensures.rows ∙ ap (λ flags. hidden flags (map Number lists.values.items)) c.deref-2.ensures.value ∙ has.items in
    let count : row_count items ≡ length (joined_items 0 read) = sym (length-rows items) ∙ ap length shown in
    let valid = ap (λ b. b.bits) c.in_ok-validity.ensures ∙ c.deref.ensures.value ∙ has.valid in
    memory_alone _ c.in-Err-try_new.fault (list_sound read c.in-Ok.offsets (row_count items) c.in_ok-validity.validity offsets count valid c.requires.2.rows) c.in-Err-try_new.ensures.refused
