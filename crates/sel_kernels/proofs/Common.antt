-- The names that most proofs cite, passed on from one place. Declares nothing.
pub use Rattle.sel_kernels.specs.BareBlocks.{HoldsBlocks, exceeded_blocks, is_bare}
pub use Rattle.sel_kernels.specs.Blocks.{block_items, blocks_within, is_block_within}
pub use Rattle.sel_kernels.specs.Dictionary.{propagated_keys, rank, valid_values}
pub use Rattle.sel_kernels.specs.Elements.{child_pick, element_at}
pub use Rattle.sel_kernels.specs.Entries.{at_each, fixed_get, place_of}
pub use Rattle.sel_kernels.specs.Flatten.{flat_row, flatten, part_fits, parts_fit, row_part}
pub use Rattle.sel_kernels.specs.JoinedBytes.{ends_from, joined_bytes}
pub use Rattle.sel_kernels.specs.Lanes.{HasLeft, lane_of, lanes_of, rows_picks}
pub use Rattle.sel_kernels.specs.Lists.{child_place, lacks_place, list_get, oob, places_in}
pub use Rattle.sel_kernels.specs.Need.{ExceedsBytes, ExceedsNone, NoneAbove, byte_count, bytes_needed, exceeded_in_parts, exceeded_limits, need}
pub use Rattle.sel_kernels.specs.Need.{need_of_parts, so_many_bytes, so_many_rows}
pub use Rattle.sel_kernels.specs.Pick.{all_below, all_within, found, is_within, pick, pick_of, place_pick, take_rows}
pub use Rattle.sel_kernels.specs.Reverse.{last_to_first}
pub use Rattle.sel_kernels.specs.Select.{effective_mask, is_true, kept, kept_from, select}
pub use Rattle.sel_kernels.specs.Steps.{entry_place, narrowed, near_place, near_value}
pub use Rattle.sel_kernels.specs.TakenFields.{exceeded_in_taken}
pub use Rattle.sel_kernels.specs.Trim.{IsRun}
pub use Rattle.sel_kernels.specs.ValidPicks.{bit_or_true, live_index, valid_pick}
pub use Rattle.sel_kernels.specs.Widths.{row_width}
pub use Rattle.sel_arrow.proofs.ByteRows.{get_or-pieces, length-pieces}
pub use Rattle.sel_arrow.proofs.Lists.{all_at, and_first, and_second, both}
pub use Rattle.sel_arrow.proofs.NestedParts.{mapped_more, tuples_type}
pub use Rattle.sel_arrow.proofs.NestedRows.{HasBlocks, has_blocks, length-blocks, length-rows, length-tuple_rows}
pub use Rattle.sel_arrow.proofs.Rows.{length-number_rows, length-part, length-truth_rows}
pub use Rattle.sel_arrow.proofs.Trees.{fields_make, has_fields, rows-Struct}
pub use Rattle.sel_arrow.proofs.Types.{type_of-Struct}
pub use Rattle.sel_arrow.proofs.ViewRows.{length-view_rows}
pub use Rattle.sel_arrow.specs.Columns.{boolean_rows, primitive_rows, utf8view_rows}
pub use Rattle.sel_bits.specs.Validity.{Covers, valid_at, bits_for}
pub use Rattle.sel_arrow.specs.Masked.{hidden, masked, number_rows, number_value}
pub use Rattle.sel_arrow.specs.Nested.{block_rows, blocks, list_of, struct_at}
pub use Rattle.sel_arrow.specs.Pieces.{last_offset, pieces, rows_between}
pub use Rattle.sel_arrow.specs.Rows.{IsField, row_count, rows, type_of, well_formed}
pub use Rattle.sel_arrow.specs.Shape.{Shape, Shapes, next_shape, no_shapes, of_fixed_size_list, of_large_binary, of_large_list, of_struct, shapes_of}
pub use Rattle.sel_arrow.specs.Value.{Null, Number, Truth, Value, is_null, is_valid, validities}
pub use Rattle.sel_arrow.specs.Views.{is_placed, view_value}
pub use Rattle.sel_arrow.specs.declared.array_ref.ArrayRef.{ArrayRef}
pub use Rattle.sel_arrow.specs.declared.column.Column.{Column, FixedSizeList, LargeList, Struct}
pub use Rattle.sel_arrow.specs.declared.column.Column.TheVariants.{FixedSizeList'}
pub use Rattle.sel_arrow.specs.declared.view.View.{View}
pub use Rattle.sel_bits.proofs.Packed.{word_of-few, word_of-next}
pub use Rattle.sel_bits.specs.Bits.{Bits, bits_from, count_true, leading_zeros, zip_with}
pub use Rattle.sel_bits.specs.Limits.{max_rows}
pub use Rattle.sel_bits.specs.Offsets.{IsRising, magnitudes}
pub use Rattle.sel_bits.specs.Place.{place}
pub use Rattle.sel_bits.specs.Words.{word_of}
pub use Rattle.sel_bits.specs.declared.faults.Limit.{Limit}
pub use Rattle.sel_bits.specs.declared.faults.Limit.TheVariants.{Bytes as ByteLimit}
pub use Rattle.sel_bits.specs.declared.faults.PolarsError.{PolarsError}
pub use Rattle.sel_bits.specs.declared.faults.PolarsError.TheVariants.{ComputeError}
pub use Rattle.sel_filter.proofs.Selects.{few_kept, length-select}
pub use Rattle.sel_gather.proofs.Below.{refused_more}
pub use Rattle.sel_gather.proofs.Depths.{one_size, size_of, sizes_of}
pub use Rattle.sel_gather.proofs.Grown.{finished}
pub use Rattle.sel_gather.proofs.ItemRuns.{listed_values}
pub use Rattle.sel_gather.proofs.JoinedRows.{offsets_of, same_numbers}
pub use Rattle.sel_gather.proofs.ListParts.{few_rows}
pub use Rattle.sel_runs.proofs.RunLists.{length-unrolled_from}
pub use Rattle.sel_gather.proofs.Thinned.{memory_alone}
pub use Rattle.sel_gather.proofs.Within.{few_rows_pass, rows_pass}
pub use Rattle.sel_gather.specs.Children.{items_in, joined_items, part_at}
pub use Rattle.sel_gather.specs.Need.{ExceedsRows, IsLimitOrMemory, exceeded_taken}
pub use Rattle.sel_runs.specs.Picks.{PickFits}
pub use Rattle.sel_runs.specs.Plans.{IsNear, IsPicked}
pub use Rattle.sel_runs.specs.Runs.{picks_of}
pub use Rattle.sel_gather.specs.Sources.{first_type}
pub use Rattle.std.proofs.Common.{All, Bool, Bor, Box, Global, IfNone, IfOk, IfSome, IsTrue, List, None, Option, SFits, Some, Vec, [], add-one, ap, append-nil}
pub use Rattle.std.proofs.Common.{append_assoc, arith, cond, count_by, drop, drop-cons, drop-drop, eq-eqb, eqb-true, ext_get_or, false, flat_map, get_or}
pub use Rattle.std.proofs.Common.{get_or-drop, get_or-take, if◌then◌else◌, inl, inr, is_none, is_some, le-leb, leb-true, length, length-append, length-drop}
pub use Rattle.std.proofs.Common.{length-take, lt-ltb, ltb-true, map, map-id, nat_le, nat_lt, ne_eqb, negsuc, not, of_z, option_and_then, option_copied}
pub use Rattle.std.proofs.Common.{option_map, pos, refl, replicate, reverse, rules, slice_get, slice_index, slice_index_or, slice_range, subst, suc, sym, take}
pub use Rattle.std.proofs.Common.{take-append-drop, take_all, to_z, true, true≢false, unwrap_or, vec_capacity, vec_len, w64, zero, zero-add, ℕ, ℤ, ⊎_elim, ◌%◌}
pub use Rattle.std.proofs.Common.{◌&&◌, ◌*◌, ◌++◌, ◌+◌, ◌-◌, ◌/◌, ◌<ℤ◌, ◌<◌, ◌==◌, ◌^◌, ◌||◌, ◌∙◌, ◌∷◌, ◌≡◌, ◌≢◌, ◌≤ℤ◌, ◌≤◌, ◌⊎◌}
pub use Rattle.std.proofs.Math.Nat.{mul_assoc, suc-mul}
pub use Rattle.std.proofs.Math.Seq.{drop-append-add, take-append_seam}
pub use Rattle.std.proofs.lemmas.Grind.{common_steps}
pub use Rattle.std.proofs.lemmas.Bool.{cases_lt}
pub use Rattle.std.proofs.lemmas.Int.{ints, to_z-of_z}
pub use Rattle.std.proofs.lemmas.List.{drop-map, drop_all, get_or-map, get_or_default, get_or_past, length-map, length-replicate, map-append, take-map}
pub use Rattle.std.proofs.lemmas.List.{take_more}
pub use Rattle.std.proofs.lemmas.List.Concat.{flat_map-append}
pub use Rattle.std.proofs.lemmas.List.Elements.{All-append, All-cons, All-get_or, All-head, All-map, All-nil, All-push, All-tail}
pub use Rattle.std.proofs.lemmas.List.Folds.{list_all-map, list_any_at}
pub use Rattle.std.proofs.lemmas.List.FromFn.{fill_by_all, get_or-map-range_with_len, get_or-range_with_len, length-map-range_with_len, length-range_with_len}
pub use Rattle.std.proofs.lemmas.List.FromFn.{map-range_with_len_more}
pub use Rattle.std.proofs.lemmas.List.Sums.{sum_by-cons}
pub use Rattle.std.proofs.lemmas.Nat.{mul-le}
pub use Rattle.std.proofs.lemmas.Result.{IfOk-weaker, MatchResult-weaker, err_from_is_err_and}
pub use Rattle.std.proofs.lemmas.Simd.{map-map}
pub use Rattle.std.specs.Int.{from_bool}
pub use Rattle.std.specs.List.{list_all, list_any, range_with_len}
pub use Rattle.std.specs.Option.{ForSome}
pub use Rattle.std.specs.Simd.{first_chunks}
