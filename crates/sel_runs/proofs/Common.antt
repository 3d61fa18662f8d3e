-- The names that most proofs cite, passed on from one place. Declares nothing.
pub use Rattle.sel_bits.specs.Validity.{bits_for, Covers, part_bits, valid_at}
pub use Rattle.sel_bits.specs.Bits.{Bits}
pub use Rattle.sel_bits.specs.Limits.{max_rows}
pub use Rattle.sel_bits.specs.Words.{bits, word_of}
pub use Rattle.sel_runs.specs.Picks.{found, pick, PickFits}
pub use Rattle.sel_runs.specs.Plans.{bit_found, bits_found, HasBit, IsNear, IsPicked}
pub use Rattle.sel_runs.specs.Runs.{expand, picks_of, unrolled, unrolled_from}
pub use Rattle.sel_runs.specs.declared.runs.Run.{Run}
pub use Rattle.std.proofs.Common.{[], All, ap, append_assoc, arith, Bool, cond, drop, false, get_or, is_none, length}
pub use Rattle.std.proofs.Common.{length-append, List, map, None, Option, refl, replicate, rules, slice_set, Some, subst, suc}
pub use Rattle.std.proofs.Common.{sym, take, true, vec_capacity, vec_len, zero, zero-add, ℕ, ◌%◌, ◌*◌, ◌++◌, ◌+◌, ◌-◌, ◌<◌}
pub use Rattle.std.proofs.Common.{◌^◌, ◌↔◌, ◌∙◌, ◌∷◌, ◌≡◌, ◌≤◌}
pub use Rattle.std.proofs.Math.Seq.{take-add, take-append-add}
pub use Rattle.std.proofs.lemmas.Grind.{common_steps}
pub use Rattle.std.proofs.lemmas.List.{append-nil, drop-append-le, drop-drop, drop-map, drop_all, drop_more, get_or-drop, get_or-map}
pub use Rattle.std.proofs.lemmas.List.{get_or-take, length-drop, length-map, length-replicate, length-take-le}
pub use Rattle.std.proofs.lemmas.List.{map-append, map_more, map_push, replicate-append-replicate, take-append-drop, take-append-le}
pub use Rattle.std.proofs.lemmas.List.{take-take, take_all, take_more}
pub use Rattle.std.proofs.lemmas.List.Elements.{All-append, All-cons, All-drop, All-get_or, All-head, All-map, All-nil}
pub use Rattle.std.proofs.lemmas.List.Elements.{All-tail, All-take}
pub use Rattle.std.proofs.lemmas.List.FromFn.{get_or-map-range_with_len, length-map-range_with_len}
pub use Rattle.std.proofs.lemmas.Result.{IfOk-weaker, on_ok_weaker}
pub use Rattle.std.specs.List.{range_with_len}
pub use Rattle.std.specs.Option.{ForSome, option_copied}
pub use Rattle.std.specs.Prelude.{count_by, not}
