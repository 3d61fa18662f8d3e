-- The names that most proofs cite, passed on from one place. Declares nothing.
pub use Rattle.sel_arrow.proofs.NestedRows.{length-rows}
pub use Rattle.sel_bits.specs.Validity.{Covers}
pub use Rattle.sel_arrow.specs.Masked.{hidden, masked}
pub use Rattle.sel_arrow.specs.Rows.{rows, type_of, well_formed}
pub use Rattle.sel_arrow.specs.Shape.{Shape, of_null, of_struct, shape_list}
pub use Rattle.sel_arrow.specs.Value.{Bytes, Null, Number, Truth, Value}
pub use Rattle.sel_arrow.specs.Views.{is_placed, view_value}
pub use Rattle.sel_arrow.specs.declared.column.Column.{Column}
pub use Rattle.sel_arrow.specs.declared.view.View.{View}
pub use Rattle.sel_bits.proofs.Packs.{get_bits, length_bits}
pub use Rattle.sel_bits.proofs.WordsOf.{length_part}
pub use Rattle.sel_bits.specs.Bits.{Bits, zip_with}
pub use Rattle.sel_bits.specs.Reading.{WordReading, reached}
unfoldable pub use Rattle.sel_bits.specs.Words.{bits}
pub use Rattle.sel_bits.specs.Words.{is_set}
pub use Rattle.sel_gather.proofs.Below.{refused_more}
pub use Rattle.sel_gather.proofs.Depths.{size_of}
pub use Rattle.sel_gather.proofs.Within.{few_rows_pass, passes_neither}
pub use Rattle.sel_gather.specs.Children.{field, joined_items, part_at}
pub use Rattle.sel_gather.specs.Need.{ExceedsNone, IsLimitOrMemory, exceeded_taken}
pub use Rattle.sel_runs.specs.Picks.{pick}
pub use Rattle.sel_ternary.specs.Choose.{broadcast_both, broadcast_false, broadcast_true, choose}
pub use Rattle.sel_ternary.specs.Chosen.{chosen_rows, first_row}
pub use Rattle.sel_ternary.specs.Lanes.{all_ones}
pub use Rattle.sel_ternary.specs.Sides.{column, scalar}
pub use Rattle.sel_ternary.specs.Validity.{chosen_validity}
pub use Rattle.sel_ternary.specs.ViewSides.{ExceedsViews, can_rise, raised, scalar_buffers}
pub use Rattle.std.proofs.Common.{All, Bool, List, None, Option, Some, [], ap, arith, cond, drop, false, get_or, inl, length, length-append, map, not, pos, refl, replicate, rules, subst, suc, sym, take, true, w16, w32, w64, w8, zero, ℕ, ℤ, ◌&&◌, ◌*◌, ◌++◌, ◌+◌, ◌-◌, ◌/◌, ◌<◌, ◌==◌, ◌^◌, ◌∙◌, ◌∷◌, ◌≡◌, ◌≤◌}
pub use Rattle.std.proofs.lemmas.Bool.{eq-eqb}
pub use Rattle.std.proofs.lemmas.Grind.{common_steps}
pub use Rattle.std.proofs.lemmas.List.{append-nil, append_assoc, get_or-replicate, length-map, length-replicate, take_all}
pub use Rattle.std.proofs.lemmas.Result.{IfOk-weaker, err_from_is_err_and}
pub use Rattle.std.proofs.lemmas.Simd.{Each1-from_get_or}
pub use Rattle.std.specs.Int.{cast_signed, cast_unsigned}
pub use Rattle.std.specs.List.{list_all}
pub use Rattle.std.specs.Prelude.{if◌then◌else◌}
pub use Rattle.std.specs.Simd.Lanes.{top}
pub use Rattle.std.specs.Vec.{vec_capacity}
