-- The names that most proofs cite, passed on from one place. Declares nothing.
pub use Rattle.sel_arrow.proofs.Lists.{all_at, all_part, and_first, and_second, both, push_more}
pub use Rattle.sel_arrow.specs.Columns.{binview_rows, utf8view_rows}
pub use Rattle.sel_arrow.specs.DataType.{shape_of}
pub use Rattle.sel_arrow.specs.Depth.{deepest, depth}
pub use Rattle.sel_arrow.specs.Makers.{binary_fault, binview_fault, block_fault, flat_fault, list_fault, or_else, struct_fault, utf8view_fault, view_fault, views_fault}
pub use Rattle.sel_bits.specs.Validity.{Covers, covers, valid_at, validity_differs}
pub use Rattle.sel_arrow.specs.Masked.{hidden, is_few, masked, number_rows, too_many}
pub use Rattle.sel_arrow.specs.Nested.{block_rows, blocks, list_of, list_rows, struct_at, struct_rows}
pub use Rattle.sel_arrow.specs.Pieces.{byte_rows, is_rising, last_offset, pieces, pieces_after, rows_between}
pub use Rattle.sel_arrow.specs.Rows.{IsField, IsWellFormed, all_well_formed, row_count, rows, type_of, types_of_each, well_formed}
pub use Rattle.sel_arrow.specs.Shape.{Shape, Shapes, is_struct_shape, next_shape, no_shapes, of_binary_view, of_boolean, of_fixed_size_list, of_int128, of_int16, of_int32, of_int64, of_int8, of_large_binary, of_large_list, of_null, of_struct, of_uint128, of_uint16, of_uint32, of_uint64, of_uint8, of_utf8_view, shapes_of}
pub use Rattle.sel_arrow.specs.Texts.{all_text, is_text}
pub use Rattle.sel_arrow.specs.Value.{Bytes, Items, Null, Number, Truth, Tuple, Value, Values, is_valid, listed, next_value, no_values, values_of}
pub use Rattle.sel_arrow.specs.Views.{all_placed, buffer_at, has_prefix, inline_bytes, inline_space, is_in_range, is_inline, is_placed, view_bytes, view_of, view_rows, view_value}
pub use Rattle.sel_arrow.specs.declared.array_ref.ArrayRef.{ArrayRef}
pub use Rattle.sel_arrow.specs.declared.column.Column.{Column, FixedSizeList, LargeList, Row_of-Column, Struct, end_of-Column, more_of-Column, the_lemmas}
pub use Rattle.sel_arrow.specs.declared.column.Column.TheVariants.{BinaryView, Boolean, FixedSizeList', Int128, Int16, Int32, Int64, Int8, LargeBinary, LargeList', Null as NullColumn, Struct', UInt128, UInt16, UInt32, UInt64, UInt8, Utf8View}
pub use Rattle.sel_arrow.specs.declared.datatype.ArrowDataType.{ArrowDataType}
pub use Rattle.sel_arrow.specs.declared.view.View.{View}
pub use Rattle.sel_bits.specs.Bits.{Bits}
pub use Rattle.sel_bits.specs.Faults.{IsFault, IsFaultOrMemory, first_broken}
pub use Rattle.sel_bits.specs.Limits.{max_buffer_bytes, max_rows}
pub use Rattle.sel_bits.specs.declared.faults.Malformed.{Malformed}
pub use Rattle.sel_bits.specs.declared.faults.Malformed.TheVariants.{ChildLength, FieldLength, OffsetRange, TooManyBuffers, TooManyRows, Utf8, ValidityLength, ViewPrefix, ViewRange, Width}
pub use Rattle.sel_text.specs.Below.{HasParts, ends_below, offsets_below, parts_below}
pub use Rattle.sel_text.specs.Cells.{HasCellRow, cell_value}
pub use Rattle.sel_text.specs.Digits.{NoDigit}
pub use Rattle.sel_text.specs.Fits.{RowsFit, all_fit, are_bytes, fields_fit, fits, fits_bytes, fits_count, fits_number, is_boolean_shape}
pub use Rattle.sel_text.specs.ItemValues.{item_value, rows_read, values_read}
pub use Rattle.sel_text.specs.Limits.{all_placed_bytes, any_exceeds_limit, block_in, bytes_placed, entries_in, exceeds_limit, exceeds_max, part_in}
pub use Rattle.sel_text.specs.Notation.{IsFirstError, after_byte, changed, closes, closing, goes_on, innermost, is_end, is_last, is_lower, is_row_notation, is_some_and, is_type_notation, kept, name_byte, value_byte}
pub use Rattle.sel_text.specs.RowRuns.{all_items, left, repeated, rows_repeated}
pub use Rattle.sel_text.specs.Spelling.{byte_spelled, escape_at, escape_spelled, is_high, is_low, is_mark, is_space, next_place, next_unit, paired, place_in_word, short_escape, spelled, spelled_from, unit_at, unit_escape}
pub use Rattle.sel_text.specs.Steps.{IsMemoryFault, MakesColumn, ReportsLimit, ShowsRows, field_text, is_plain, is_view_shape}
pub use Rattle.sel_text.specs.Stored.{bool_stored, bytes_behind, bytes_stored}
pub use Rattle.sel_text.specs.TextErrors.{IsLimitOrMemoryError, make_fault}
pub use Rattle.sel_text.specs.Texts.{bool_text, bracketed, bytes_text, escaped, hex_byte, hex_text, is_text_shape, item_shape, item_texts, parenthesized, part_shapes, part_texts, quoted, text_of, value_text}
pub use Rattle.sel_text.specs.Tokens.{after_name_byte, after_string_byte, after_word_byte, escape_byte, is_between, is_hexadecimal, text_byte}
pub use Rattle.sel_text.specs.Types.{angled, type_text, type_texts}
pub use Rattle.sel_text.specs.Written.{all_widths_written, widths_written}
pub use Rattle.sel_text.specs.declared.build.NullSlots.{NullSlots}
pub use Rattle.sel_text.specs.declared.item.Item.{Item, Items as ItemsItem, Parts as PartsItem, Row_of-Item, end_of-Item, items-the_row-Item, items_hidden-the_row-Item-0, more_of-Item}
pub use Rattle.sel_text.specs.declared.notation.Bracket.{Bracket}
pub use Rattle.sel_text.specs.declared.notation.Bracket.TheVariants.{Child, Fields, Round, Square}
pub use Rattle.sel_text.specs.declared.notation.Change.{Change}
pub use Rattle.sel_text.specs.declared.notation.Change.TheVariants.{Close, Keep}
pub use Rattle.sel_text.specs.declared.notation.Next.{Next}
pub use Rattle.sel_text.specs.declared.notation.Next.TheVariants.{After, FirstName, Name, Quoted, Size, SizeDigit}
pub use Rattle.sel_text.specs.declared.spelling.Place.{Place}
pub use Rattle.sel_text.specs.declared.spelling.Place.TheVariants.{Between, Gap, Hexadecimal as InHex, Prefix, Quoted as InString, Word as PlaceWord}
pub use Rattle.sel_text.specs.declared.text_error.Fault.{Fault}
pub use Rattle.sel_text.specs.declared.text_error.Fault.TheVariants.{Limit, OutOfMemory}
pub use Rattle.sel_text.specs.declared.tokens.TypeWord.{TypeWord as TypeWordSoFar}
pub use Rattle.sel_text.specs.declared.tokens.TypeWord.TheVariants.{B, Lis}
pub use Rattle.sel_text.specs.declared.tokens.Within.{Within}
pub use Rattle.sel_text.specs.declared.tokens.Within.TheVariants.{AfterE0, AfterEd, AfterF0, AfterF4, ByteOne, ByteThree, ByteTwo, Escape, HighOne, HighTwo, LastOne, LastThree, LastTwo, LowBackslash, LowFirst, LowLetter, LowSecond, Text, UnitFirst, UnitSecond}
pub use Rattle.sel_text.specs.declared.tokens.Word.{Word as WordSoFar}
pub use Rattle.sel_text.specs.declared.tokens.Word.TheVariants.{N}
pub use Rattle.std.proofs.lemmas.Bool.{cond_both, eq-eqb, eqb-true, false_from_ne_true, false≢true, or_from, or_left, or_parts, or_right}
pub use Rattle.std.proofs.lemmas.Bool.Decides.{nat_tests}
pub use Rattle.std.proofs.lemmas.Fmt.{decimal-digits_value, decimal_digit, decimal_is_IsNumeral_wide, decimal_step_wide}
pub use Rattle.std.proofs.lemmas.Grind.{common_steps, flat_map-append}
pub use Rattle.std.proofs.lemmas.List.{append-nil, drop_all, drop_more, get_or-append_right, get_or-drop, get_or-map, get_or-take, get_or_past, length-map, length-replicate, length-take, map-append, map-id, map_more, replicate-append-replicate, take-append-drop, take_all, take_more, take_rest}
pub use Rattle.std.proofs.lemmas.List.Elements.{All-head, All-more, All-tail, All-weaker}
pub use Rattle.std.proofs.lemmas.List.Folds.{list_all-append, list_all-map, list_all_at}
pub use Rattle.std.proofs.lemmas.Result.{IfErr-weaker, IfOk-weaker, on_ok_weaker}
pub use Rattle.std.proofs.lemmas.Str.{IsUtf8-from_is_utf8, chars-encodes, digit_value-digit_char, encode_ascii, encodes-append, is_utf8-from_IsUtf8}
pub use Rattle.std.specs.Char.{digit_char, digit_value, is_digit}
pub use Rattle.std.specs.Fmt.{decimal, signed_decimal}
pub use Rattle.std.specs.Int.{IsInRange, byte_at, bytes_low_first, to_le_bytes, w128, w32}
pub use Rattle.std.specs.Int.Signed.{mag}
pub use Rattle.std.specs.List.{flat_map, join_with_byte, list_all, range_with_len, slice_range}
pub use Rattle.std.specs.Prelude.{MatchResult, Option, codes, encode_utf8, if◌then◌else◌, nat_lt, not, option_and_then, option_map, ⊤, ◌&&◌, ◌==◌, ◌≡◌}
pub use Rattle.std.specs.Str.{IsUtf8, chars, is_utf8}
pub use Rattle.std.specs.Str.Parse.{AllDigits, IsNumeral, digits_value}
