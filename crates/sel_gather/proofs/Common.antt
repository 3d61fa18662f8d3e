-- The names that most proofs cite, passed on from one place. Declares nothing.
pub use Rattle.sel_arrow.proofs.ByteRows.{get_or-pieces, length-byte_rows, length-pieces, null_bytes, valid_bytes}
pub use Rattle.sel_arrow.proofs.Lists.{all_part, and_first, and_second, both}
pub use Rattle.sel_arrow.proofs.NestedRows.{blocks_formed, has_blocks, has_lists, HasBlocks, HasLists, length-blocks, length-rows, lists_formed, struct_covered}
pub use Rattle.sel_arrow.proofs.Rows.{length-mapped, length-part, null_mapped, part-mapped, valid_mapped}
pub use Rattle.sel_arrow.specs.Columns.{binary_rows, binview_rows, boolean_rows}
pub use Rattle.sel_arrow.specs.Masked.{bool_rows, hidden, masked, number_rows}
pub use Rattle.sel_bits.specs.Validity.{Covers, valid_at, bits_for, part_bits}
pub use Rattle.sel_arrow.specs.Nested.{block_rows, blocks, list_of, list_rows, struct_at, struct_rows}
pub use Rattle.sel_arrow.specs.Nulls.{IsValidityOf}
pub use Rattle.sel_arrow.specs.Pieces.{byte_rows, last_offset, pieces, pieces_after, rows_between}
pub use Rattle.sel_arrow.specs.Rows.{all_well_formed, IsField, IsWellFormed, row_count, rows, rows_of_each, type_of, types_of_each, well_formed}
pub use Rattle.sel_arrow.specs.Shape.{next_shape, no_shapes, of_fixed_size_list, of_large_list, of_null, of_struct, Shape, shape_list, Shapes, shapes_of}
pub use Rattle.sel_arrow.specs.Value.{Bytes, is_valid, Items, listed, next_value, no_values, Null, Number, Truth, Tuple, validities, Value, Values, values_of}
pub use Rattle.sel_arrow.specs.Views.{is_inline, is_placed, view_rows, view_value, word_at}
pub use Rattle.sel_arrow.specs.declared.column.Column.{Column, end_of-Column, FixedSizeList, items-the_row-Column, items_hidden-the_row-Column-0, LargeList}
pub use Rattle.sel_arrow.specs.declared.column.Column.{more_of-Column, Row_of-Column, Struct}
pub use Rattle.sel_arrow.specs.declared.column.Column.TheVariants.{BinaryView, Boolean, FixedSizeList', Int128, Int16, Int32, Int64, Int8, LargeBinary}
pub use Rattle.sel_arrow.specs.declared.column.Column.TheVariants.{LargeList', Null as NullColumn, Struct', UInt128, UInt16, UInt32, UInt64, UInt8, Utf8View}
pub use Rattle.sel_bits.specs.Bits.{Bits, leading_ones, leading_zeros}
pub use Rattle.sel_bits.specs.Limits.{max_buffers, max_rows}
pub use Rattle.sel_bits.specs.Offsets.{IsOffsets, IsRising, magnitudes}
pub use Rattle.sel_bits.specs.Words.{bits, word_of}
pub use Rattle.sel_bits.specs.declared.faults.Limit.{Limit}
pub use Rattle.sel_bits.specs.declared.faults.Limit.TheVariants.{Buffers as BufferLimit, Bytes as ByteLimit, Rows as RowLimit}
pub use Rattle.sel_bits.specs.declared.faults.PolarsError.{PolarsError}
pub use Rattle.sel_bits.specs.declared.faults.PolarsError.TheVariants.{ComputeError, OutOfMemory, SizeLimit}
pub use Rattle.sel_gather.specs.Children.{child, columns_in, field, fields_of, is_listing, items_in, joined_items, part_at}
pub use Rattle.sel_gather.specs.Cleared.{cleared, IsLive}
pub use Rattle.sel_gather.specs.Ends.{item_ends}
pub use Rattle.sel_gather.specs.Gathers.{Collects, CollectsSome, MayGather, SelectsFrom}
pub use Rattle.sel_gather.specs.GrownBytes.{AllBytesRows, bytes_of, GrewBy, joined_bytes}
pub use Rattle.sel_gather.specs.ItemPicks.{IsRow, item_picks, items_at, part_of, part_picks}
pub use Rattle.sel_gather.specs.JoinedBytes.{ends_from, IsBytesRow}
pub use Rattle.sel_gather.specs.KeptPicks.{kept_by}
pub use Rattle.sel_gather.specs.Need.{buffer_count, buffers_joined, byte_count, bytes_needed, exceeded_in_fields, exceeded_in_parts, exceeded_limits}
pub use Rattle.sel_gather.specs.Need.{exceeded_taken, ExceedsBuffers, ExceedsBytes, ExceedsNone, ExceedsRows, IsLimitOrMemory}
pub use Rattle.sel_runs.specs.Picks.{found, pick, PickFits}
pub use Rattle.sel_runs.specs.Plans.{bit_found, bits_found, HasBit, IsNear, IsPicked}
pub use Rattle.sel_gather.specs.Raised.{IsBufferLimitOrMemory, raised, starts_of}
pub use Rattle.sel_runs.specs.Runs.{expand, picks_of, unrolled, unrolled_from}
pub use Rattle.sel_gather.specs.Sources.{columns_of, first_type, picked}
pub use Rattle.sel_gather.specs.Steps.{AreValidities, parts_of}
pub use Rattle.sel_runs.specs.declared.runs.Run.{Run}
pub use Rattle.std.proofs.Common.{[], add_assoc, All, ap, append_assoc, arith, Bool, Bor, Box, cond, drop, false, get_or, Global, inl, inr, is_none, length}
pub use Rattle.std.proofs.Common.{length-append, length-take, List, map, nat_le, None, OnOk, Option, pos, refl, replicate, rules, slice_set, Some, subst, suc}
pub use Rattle.std.proofs.Common.{sym, take, true, true≢false, Vec, vec_capacity, vec_len, w64, zero, zero-add, add-zero, ℕ, ℤ, ◌%◌, ◌&&◌, ◌*◌, ◌++◌, ◌+◌, ◌-◌, ◌<◌, ◌==◌}
pub use Rattle.std.proofs.Common.{◌^◌, ◌↔◌, ◌∙◌, ◌∷◌, ◌≡◌, ◌≢◌, ◌≤◌, ◌⊎◌}
pub use Rattle.std.proofs.Math.Seq.{take-add, take-append-add}
pub use Rattle.std.proofs.lemmas.Bool.{cases_lt, le-leb, leb-true, lt-leb, lt-ltb, ltb-true}
pub use Rattle.std.proofs.lemmas.Grind.{common_steps}
pub use Rattle.std.proofs.lemmas.Int.{ints, to_z_pos}
pub use Rattle.std.proofs.lemmas.List.{append-nil, drop-append-le, drop-drop, drop-map, drop_all, drop_more, ext_get_or, get_or-drop, get_or-map}
pub use Rattle.std.proofs.lemmas.List.{get_or-replicate, get_or-take, get_or_default, get_or_past, length-drop, length-map, length-replicate, length-take-le}
pub use Rattle.std.proofs.lemmas.List.{map-append, map-id, map_more, map_push, replicate-append-replicate, take-append-drop, take-append-le, take-map}
pub use Rattle.std.proofs.lemmas.List.{take-take, take_all, take_more}
pub use Rattle.std.proofs.lemmas.List.Concat.{flat_map-append, get_or-flat_map}
pub use Rattle.std.proofs.lemmas.List.Elements.{All-append, All-cons, All-drop, All-get_or, All-head, All-map, All-more, All-nil, All-push, All-replicate}
pub use Rattle.std.proofs.lemmas.List.Elements.{All-tail, All-take}
pub use Rattle.std.proofs.lemmas.List.FromFn.{fill_by_all, get_or-map-range_with_len, get_or-range_with_len, length-map-range_with_len, length-range_with_len}
pub use Rattle.std.proofs.lemmas.List.FromFn.{map-range_with_len_more}
pub use Rattle.std.proofs.lemmas.Result.{err_from_is_err_and, IfOk-weaker, on_ok_weaker}
pub use Rattle.std.specs.List.{flat_map, list_all, range_with_len, slice_get, slice_range}
pub use Rattle.std.specs.Option.{ForSome, option_copied}
pub use Rattle.std.specs.Prelude.{count_by, Err, IfOk, IfSome, if◌then◌else◌, is_some, IsErrAnd, IsTrue, leb, ltb, not, Result}
