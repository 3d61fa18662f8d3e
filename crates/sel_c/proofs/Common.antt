-- The names that most proofs cite, re-exported from one place. Declares nothing.
pub use Rattle.sel_kernels.specs.Pick.{all_within, take_rows}
pub use Rattle.sel_arrow.specs.Columns.{boolean_rows, primitive_rows, utf8view_rows}
pub use Rattle.sel_arrow.specs.DataType.{all_widths_fit, shape_of, shapes_of_each, widths_fit}
pub use Rattle.sel_arrow.specs.Depth.{deepest, depth}
pub use Rattle.sel_bits.specs.Validity.{Covers, valid_at}
pub use Rattle.sel_arrow.specs.Masked.{is_few, masked, number_rows}
pub use Rattle.sel_arrow.specs.NestedArrays.{block_column, list_column}
pub use Rattle.sel_arrow.specs.Rows.{all_well_formed, buffers_held, row_count, rows, type_of, types_of_each, well_formed}
pub use Rattle.sel_arrow.specs.Shape.{Shape, of_uint32, of_utf8_view}
pub use Rattle.sel_arrow.specs.Value.{Null, Number, Value}
pub use Rattle.sel_arrow.specs.declared.array_ref.ArrayRef.{ArrayRef}
pub use Rattle.sel_arrow.specs.declared.column.Column.{Column, Row_of-Column, Struct, end_of-Column, more_of-Column}
pub use Rattle.sel_bits.specs.Bits.{Bits}
pub use Rattle.sel_bits.specs.declared.faults.Limit.{Limit}
pub use Rattle.sel_bits.specs.declared.faults.PolarsError.{PolarsError}
pub use Rattle.sel_c.specs.PickLengths.{HasRow}
pub use Rattle.sel_c.specs.Returns.{IsOkOrLimit, ReturnsColumn}
pub use Rattle.sel_c.specs.Several.{AreAlike, CollectsRows, FlattensColumns, first_shape, pick_in, picks_conditions, picks_from, picks_in}
pub use Rattle.sel_ffi.specs.Held.{Held}
pub use Rattle.sel_ffi.specs.Inputs.{lacks_bits, validity_in}
pub use Rattle.sel_ffi.specs.Status.{HasColumn, Makes, ReturnsFirst, error_status, held_buffer_lists, held_columns, held_count, held_rows, held_type, index_out_of_bounds, length_mismatch, list_index_out_of_bounds, no_column, ok, out_of_memory, type_mismatch, unsupported_type}
pub use Rattle.sel_gather.specs.Children.{child, columns_in, field, fields_of, is_listing}
pub use Rattle.sel_gather.specs.Need.{ExceedsNone, IsLimitOrMemory, exceeded_limits, exceeded_taken}
pub use Rattle.sel_runs.specs.Picks.{PickFits, pick}
pub use Rattle.sel_text.specs.Limits.{any_exceeds_limit, block_in, entries_in, exceeds_limit, exceeds_max, part_in}
pub use Rattle.std.proofs.lemmas.Bool.Decides.{nat_tests}
pub use Rattle.std.proofs.lemmas.Int.{to_z-of_z}
pub use Rattle.std.proofs.lemmas.List.{get_or-map, length-map}
pub use Rattle.std.proofs.lemmas.List.Elements.{All-cons, All-map, All-more, All-nil}
pub use Rattle.std.specs.List.{flat_map, slice_get}
