-- One row of a column with children.
use Rattle.std.proofs.Common.{◌≡◌, ℕ, ◌+◌, ◌-◌, ◌*◌, ◌≤◌, ◌<◌, true, false, All, List, [], length, map, Option, Vec, Box, Global, ap, sym, ◌∙◌, arith, get_or}
use Rattle.std.proofs.Common.{IsTrue}
use Rattle.sel_text.proofs.Common.{slice_range, range_with_len, is_utf8, All-weaker, max_rows, Bits, valid_at, list_of, struct_at, blocks, pieces, rows_between}
use Rattle.sel_text.proofs.Common.{rows, row_count, type_of, well_formed, IsWellFormed, IsField, shapes_of, Null, Column, LargeList, FixedSizeList, Struct}
use Rattle.sel_text.proofs.Common.{utf8view_rows, is_text, is_placed, view_bytes, view_rows, View, all_at, HasCellRow, part_shapes}
use Rattle.std.{specs.Option.ForSome, proofs.Math.Nat.mul-le-mul_right}
use Rattle.std.proofs.lemmas.List.FromFn.{get_or-map-range_with_len, length-range_with_len, get_or-range_with_len}
use Rattle.sel_arrow.proofs.{ByteRows.length-pieces, ByteRows.get_or-pieces, Trees.HasFields, Trees.has_fields, Trees.rows-Struct}
use Rattle.sel_arrow.proofs.NestedRows.{HasLists, HasBlocks, has_lists, has_blocks, length-rows, length-blocks}
use Rattle.sel_arrow.proofs.{Rows.null_mapped, Rows.valid_mapped, Types.struct_type, ViewRows.length-view_rows, ViewRows.placed_at, ViewRows.valid_view}
use Rattle.sel_arrow.specs.declared.utf8view.Utf8ViewArray.{Utf8ViewArray}

-- ---- lists

module _ (c : Column) (offsets : List ℕ) (values : Box Column Global) (validity : Option Bits) (i : ℕ) (is : c ≡ LargeList offsets values validity) (row : HasCellRow i c) where
  pub list_has : HasLists offsets values.value validity
  list_has = has_lists offsets values.value validity (ap well_formed (sym is) ∙ row.0)

  pub list_inside : i < rows_between offsets
  list_inside = let count = length-rows c in let same = ap row_count is in omega (arith, row.1, count, same)

  pub list_covered : ForSome validity (λ v. i < length v.bits)
  list_covered = λ v there. let same = list_has.covered v there in omega (arith, same, list_inside)

  pub list_valid : valid_at validity i ≡ true → list_of (slice_range (rows values.value) (get_or offsets i 0) (get_or offsets (i + 1) 0)) ≡ get_or (rows c) i Null
  list_valid valid =
      sym (ap (λ x. get_or (rows x) i Null) is ∙ valid_mapped list_of (pieces offsets (rows values.value)) validity i [] valid (rw length-pieces list_inside) (λ v there. rw length-pieces (list_has.covered v there))
      ∙ ap list_of (get_or-pieces offsets (rows values.value) i list_inside))

  pub list_null : valid_at validity i ≡ false → Null ≡ get_or (rows c) i Null
  list_null hidden = sym (ap (λ x. get_or (rows x) i Null) is ∙ null_mapped list_of (pieces offsets (rows values.value)) validity i hidden (rw length-pieces list_inside) (λ v there. rw length-pieces (list_has.covered v there)))

  pub list_bounds : IsWellFormed values.value × (get_or offsets i 0 ≤ get_or offsets (i + 1) 0) × (get_or offsets (i + 1) 0 ≤ length (rows values.value))
  list_bounds =
      let has = list_has in
      let inside = list_inside in
      let step = has.rising.rising i (i + 1) (omega arith) (omega arith) in
      let last = has.rising.rising (i + 1) (length offsets - 1) (omega arith) (omega arith) in
      (has.child, step, omega (arith, last, has.ends, length-rows values.value))

  pub list_few : i < max_rows
  list_few = let few = list_has.few in omega (arith, few, list_inside)

-- ---- fixed-size lists

module _ (c : Column) (size len : ℕ) (values : Box Column Global) (validity : Option Bits) (i : ℕ) (is : c ≡ FixedSizeList size len values validity) (row : HasCellRow i c) where
  block_has : HasBlocks size len values.value validity
  block_has = has_blocks size len values.value validity (ap well_formed (sym is) ∙ row.0)

  block_inside : i < len
  block_inside = let count = length-rows c in let same = ap row_count is in omega (arith, row.1, count, same)

  pub block_covered : ForSome validity (λ v. i < length v.bits)
  block_covered = λ v there. let same = block_has.covered v there in omega (arith, same, block_inside)

  pub block_valid : valid_at validity i ≡ true → list_of (slice_range (rows values.value) (i * size) (i * size + size)) ≡ get_or (rows c) i Null
  block_valid valid =
      sym (ap (λ x. get_or (rows x) i Null) is ∙ valid_mapped list_of (blocks size len (rows values.value)) validity i [] valid (rw length-blocks block_inside) (λ v there. rw length-blocks (block_has.covered v there))
      ∙ ap list_of (get_or-map-range_with_len (λ k. slice_range (rows values.value) (k * size) (k * size + size)) 0 len i i [] block_inside (omega arith)))

  pub block_null : valid_at validity i ≡ false → Null ≡ get_or (rows c) i Null
  block_null hidden = sym (ap (λ x. get_or (rows x) i Null) is ∙ null_mapped list_of (blocks size len (rows values.value)) validity i hidden (rw length-blocks block_inside) (λ v there. rw length-blocks (block_has.covered v there)))

  block_end : i * size + size ≤ length (rows values.value)
  block_end =
      let more : (i + 1) * size ≤ len * size = mul-le-mul_right size (omega (arith, block_inside)) in
      let one : (i + 1) * size ≡ i * size + size = omega arith in
      omega (arith, more, one, block_has.fills, length-rows values.value)

  pub block_bounds : IsWellFormed values.value × (i * size ≤ i * size + size) × (i * size + size ≤ length (rows values.value))
  block_bounds = (block_has.child, omega arith, block_end)

  pub block_few : i * size + size < 18446744073709551616
  block_few =
      let a : len * size ≤ max_rows * size = mul-le-mul_right size block_has.few in
      omega (arith, a, block_has.narrow, block_end, block_has.fills, length-rows values.value)

-- ---- structs

module _ (c : Column) (len : ℕ) (fields : Vec Column Global) (validity : Option Bits) (i : ℕ) (is : c ≡ Struct len fields validity) (row : HasCellRow i c) where
  tuple_has : HasFields len fields.items validity
  tuple_has = has_fields len fields validity (ap well_formed (sym is) ∙ row.0)

  tuple_inside : i < len
  tuple_inside = let count = length-rows c in let same = ap row_count is in omega (arith, row.1, count, same)

  pub tuple_covered : ForSome validity (λ v. i < length v.bits)
  tuple_covered = λ v there. let same = tuple_has.covered v there in omega (arith, same, tuple_inside)

  pub tuple_valid : valid_at validity i ≡ true → struct_at (map rows fields.items) i ≡ get_or (rows c) i Null
  tuple_valid valid =
      sym (ap (λ x. get_or (rows x) i Null) is ∙ ap (λ l. get_or l i Null) (rows-Struct len fields validity)
      ∙ valid_mapped (struct_at (map rows fields.items)) (range_with_len 0 len) validity i 0 valid (rw length-range_with_len tuple_inside) (λ v there. rw length-range_with_len (tuple_has.covered v there))
      ∙ ap (struct_at (map rows fields.items)) (get_or-range_with_len 0 len i 0 tuple_inside ∙ (let same : 0 + i ≡ i = omega arith in same)))

  pub tuple_null : valid_at validity i ≡ false → Null ≡ get_or (rows c) i Null
  tuple_null hidden =
      sym (ap (λ x. get_or (rows x) i Null) is ∙ ap (λ l. get_or l i Null) (rows-Struct len fields validity)
      ∙ null_mapped (struct_at (map rows fields.items)) (range_with_len 0 len) validity i hidden (rw length-range_with_len tuple_inside) (λ v there. rw length-range_with_len (tuple_has.covered v there)))

  pub tuple_fields : All (HasCellRow i) fields.items
  tuple_fields = All-weaker (IsField len) (HasCellRow i) (λ field fit. (fit.1, let count = length-rows field in let same = fit.0 in let inside = tuple_inside in omega (arith, count, same, inside))) fields.items tuple_has.fields

  pub tuple_types : part_shapes (type_of c) ≡ shapes_of (map type_of fields.items)
  tuple_types = ap part_shapes (struct_type c len fields validity is)

-- ---- strings

pub text_fits : (array : Utf8ViewArray) (i : ℕ) (d : View) → valid_at array.bytes.validity i ≡ true → i < length (utf8view_rows array) →
    IsTrue (is_placed array.bytes.buffers (get_or array.bytes.views i d)) × IsTrue (is_utf8 (view_bytes array.bytes.buffers (get_or array.bytes.views i d)))
text_fits array i d valid inside =
    let b = array.bytes in
    let count : i < length b.views = rw length-view_rows at inside in (
      placed_at b.buffers b.views i d b.placed count,
      ap is_text (sym (valid_view b.views b.buffers b.validity i d valid count b.validity_fits)) ∙ all_at is_text (view_rows b.views b.buffers b.validity) i Null array.texts inside,
    )
