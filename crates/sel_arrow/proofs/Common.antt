-- The names that most proofs cite, passed on from one place. Declares nothing.
pub use Rattle.sel_arrow.specs.Columns.{binary_rows}
pub use Rattle.sel_arrow.specs.DataType.{all_widths_fit, shape_of, shapes_of_each, widths_fit}
pub use Rattle.sel_arrow.specs.Makers.{block_fault, list_fault, or_else, struct_length_fault, view_fault, views_fault}
pub use Rattle.sel_bits.specs.Validity.{Covers, covers, valid_at, validity_differs}
pub use Rattle.sel_arrow.specs.Masked.{bool_rows, bool_value, hidden, is_few, masked, number_rows, number_value, part_of, too_many}
pub use Rattle.sel_arrow.specs.Nested.{block_rows, blocks, list_of, list_rows, struct_at, struct_rows}
pub use Rattle.sel_arrow.specs.Nulls.{IsValidityOf}
pub use Rattle.sel_arrow.specs.Pieces.{byte_rows, is_rising, last_offset, pieces, pieces_after, rises_from, rows_between}
pub use Rattle.sel_arrow.specs.Rows.{IsField, IsWellFormed, all_well_formed, buffers_held, buffers_of_each, row_count, rows, rows_of_each, type_of, types_of_each, well_formed}
pub use Rattle.sel_arrow.specs.Shape.{Shape, Shapes, next_shape, of_binary_view, of_boolean, of_fixed_size_list, of_int128, of_int16, of_int32, of_int64, of_int8, of_large_binary, of_large_list, of_null, of_struct, of_uint128, of_uint16, of_uint32, of_uint64, of_uint8, of_utf8_view, shape_list, shapes_of}
pub use Rattle.sel_arrow.specs.Value.{Bytes, Null, Number, Truth, Tuple, Value, is_null, is_valid, validities, values_of}
pub use Rattle.sel_arrow.specs.declared.array_ref.ArrayRef.{ArrayRef}
pub use Rattle.sel_arrow.specs.declared.column.Column.{Column, FixedSizeList, LargeList, Row_of-Column, Struct, end_of-Column, items-the_row-Column, items_hidden-the_row-Column-0, more_of-Column}
pub use Rattle.sel_arrow.specs.declared.datatype.ArrowDataType.{the_lemmas}
pub use Rattle.sel_bits.specs.Bits.{Bits}
pub use Rattle.sel_bits.specs.Limits.{max_rows}
pub use Rattle.sel_bits.specs.Offsets.{IsOffsets, IsRising}
pub use Rattle.std.proofs.lemmas.Bool.Decides.{nat_tests}
pub use Rattle.std.proofs.lemmas.List.{drop-append-le, drop-drop, drop-map, drop-take, get_or-drop, get_or-map, get_or-take, length-map, length-replicate, map-append, map_more, map_push, take-append-le, take-map, take-take, take_all}
pub use Rattle.std.proofs.lemmas.List.Elements.{All-cons, All-get_or, All-head, All-map, All-more, All-nil, All-push, All-tail, All-weaker}
pub use Rattle.std.proofs.lemmas.List.Folds.{list_all-append, list_all-map, list_all_at, list_all_more}
pub use Rattle.std.specs.List.{All, flat_map, list_all, range_with_len, slice_range}
pub use Rattle.std.specs.Option.{ForSome, option_map}
