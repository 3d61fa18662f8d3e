-- The names that most proofs cite, passed on from one place. Declares nothing.
pub use Rattle.sel_kernels.specs.Pick.{all_within}
pub use Rattle.sel_kernels.specs.SelectRows.{rows_of_arrays, type_of_each}
pub use Rattle.sel_arrow.proofs.Lists.{and_first, and_second, both}
pub use Rattle.sel_arrow.specs.Columns.{primitive_rows}
pub use Rattle.sel_arrow.specs.Makers.{block_fault, list_fault, utf8view_fault, views_fault}
pub use Rattle.sel_arrow.specs.Masked.{bool_rows, hidden, too_many}
pub use Rattle.sel_arrow.specs.Nested.{block_rows, blocks, list_of, list_rows}
pub use Rattle.sel_arrow.specs.Rows.{row_count, rows, type_of}
pub use Rattle.sel_arrow.specs.Shape.{of_int64}
pub use Rattle.sel_arrow.specs.Value.{Bytes, Items, Null, Number, Truth, Tuple, Value, is_null, is_valid, validities}
pub use Rattle.sel_arrow.specs.declared.array_ref.ArrayRef.{ArrayRef}
pub use Rattle.sel_bits.specs.Bits.{Bits}
pub use Rattle.sel_bits.specs.Limits.{max_buffers, max_rows}
pub use Rattle.sel_bits.specs.declared.faults.PolarsError.TheVariants.{ComputeError, OutOfMemory, SizeLimit}
pub use Rattle.sel_gather.specs.Children.{items_in, joined_items}
pub use Rattle.sel_gather.specs.Ends.{item_ends}
pub use Rattle.sel_gather.specs.Need.{ExceedsRows, IsLimitOrMemory, byte_count, bytes_needed}
pub use Rattle.sel_lines.specs.BlockParts.{HasBlocks, IsReadingBlocks, standing_for}
pub use Rattle.sel_lines.specs.Blocks.{block_of, blocks_of, is_block, parsed_width}
pub use Rattle.sel_lines.specs.Columns.{all_some, column_of, column_text, row_of, row_text}
pub use Rattle.sel_lines.specs.Fixed.{entries_text, fixed_words}
pub use Rattle.sel_lines.specs.Flatten.{flat_text, flatten_answer, flatten_part, flatten_words, side_by_side}
pub use Rattle.sel_lines.specs.ListParts.{AreFew, HasRead, IsListRow, IsReading, shown_list}
pub use Rattle.sel_lines.specs.Lists.{list_of_word, lists_of}
pub use Rattle.sel_lines.specs.Numbers.{index_of, number_of, size_of, truth_of}
pub use Rattle.sel_lines.specs.Parts.{HasOneSpelling, read_part, text_row}
pub use Rattle.sel_lines.specs.Rows.{parsed_rows, shown_row}
pub use Rattle.sel_lines.specs.Texts.{string_value}
pub use Rattle.std.proofs.lemmas.Bool.Decides.{Decides-and, Decides-eqb, Decides-ltb, nat_tests}
pub use Rattle.std.proofs.lemmas.Grind.{common_steps}
pub use Rattle.std.proofs.lemmas.Int.{to_z-of_z}
pub use Rattle.std.proofs.lemmas.List.{append-nil, get_or-map, length-drop, length-map, length-replicate, length-take, map-append, take-append-drop, take_all, take_more}
pub use Rattle.std.proofs.lemmas.List.Elements.{All-head, All-nil, All-push, All-weaker}
pub use Rattle.std.proofs.lemmas.List.Folds.{list_all-append}
pub use Rattle.std.proofs.lemmas.Result.{IfOk-weaker, err_from_is_err_and}
pub use Rattle.std.specs.List.{All, join_with_byte, list_all, onto_first, slice_split}
