-- The names that most proofs cite, re-exported from one place. Declares nothing.
pub use Rattle.sel_arrow.specs.Depth.{deepest, depth}
pub use Rattle.sel_arrow.specs.Rows.{buffers_held, row_count, rows, type_of}
pub use Rattle.sel_arrow.specs.Shape.{Shape, of_int8, of_struct, shapes_of}
pub use Rattle.sel_arrow.specs.declared.array_ref.ArrayRef.{ArrayRef}
pub use Rattle.sel_arrow.specs.declared.column.Column.{Column}
pub use Rattle.sel_ffi.specs.Owned.{held_owns, lasts, ref_owns}
pub use Rattle.sel_ffi.specs.Status.{HasColumn, held_buffer_lists, held_rows, held_type}
pub use Rattle.sel_ffi.specs.declared.handle.Handle.{Handle}
pub use Rattle.std.proofs.lemmas.Grind.{common_steps}
pub use Rattle.std.proofs.lemmas.List.{length-map, map-append, take_more, take_more_set}
pub use Rattle.std.proofs.lemmas.List.Elements.{All-more, All-push}
pub use Rattle.std.specs.declared.option.Option.{Option}
pub use Rattle.std.specs.declared.option.Option.TheVariants.{None, Some}
