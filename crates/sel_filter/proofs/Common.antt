-- The names that most proofs cite, passed on from one place. Declares nothing.
pub use Rattle.sel_bits.proofs.BitLists.{length_bits_from}
pub use Rattle.sel_bits.proofs.Lists.{bits_suc, bits_zero, cond_of_bit}
pub use Rattle.sel_bits.proofs.Packs.{bits_split, length_bits}
pub use Rattle.sel_bits.proofs.Padded.{word_of_lt}
pub use Rattle.sel_bits.proofs.Shifts.{bit_at_mod, bit_at_shr}
pub use Rattle.sel_bits.specs.Bits.{Bits, bits_from, count_true}
pub use Rattle.sel_bits.specs.Reading.{after_word, reached}
unfoldable pub use Rattle.sel_bits.specs.Words.{bits}
pub use Rattle.sel_bits.specs.Words.{is_set, ones_below, word_of}
unfoldable pub use Rattle.sel_filter.specs.Compress.{compress}
pub use Rattle.sel_filter.specs.Runs.{starts_after}
pub use Rattle.sel_filter.specs.Select.{select}
pub use Rattle.sel_filter.specs.declared.nibbles.TheConstants.{NIBBLES}
pub use Rattle.std.proofs.Common.{Bool, List, [], ap, append-nil, append_assoc, arith, cond, drop, false, get_or, length, length-append, min, refl, replicate, subst, suc, sym, take, true, vec_len, zero, ℕ, ⊎_elim, ◌%◌, ◌*◌, ◌++◌, ◌+◌, ◌-◌, ◌/◌, ◌<◌, ◌^◌, ◌∙◌, ◌∷◌, ◌≡◌, ◌≤◌}
pub use Rattle.std.proofs.Math.Nat.{div-one, pow-suc}
pub use Rattle.std.proofs.Math.Seq.{take-add}
pub use Rattle.std.proofs.lemmas.Bool.{cases_lt}
pub use Rattle.std.proofs.lemmas.List.{length-drop, length-take, nil_from_length, take_all, take_rest}
pub use Rattle.std.proofs.lemmas.List.Sums.{count_by-le-length}
pub use Rattle.std.proofs.lemmas.Nat.{and_le_l, pow_pos, shr-shr}
pub use Rattle.std.proofs.lemmas.Nat.Bits.{bit_at-lt, bit_at-pow_other, bit_at-suc, bit_at-trailing_zeros, bit_at-zero, bit_at_above, bit_at_and, bit_at_lowest, shr_and_one}
pub use Rattle.std.proofs.lemmas.Result.{IfOk-weaker}
pub use Rattle.std.specs.Int.{bit_at, trailing_zeros, w64}
pub use Rattle.std.specs.List.{flat_map}
pub use Rattle.std.specs.Prelude.{bit_and, count_ones, vec_capacity, ◌==◌}
pub use lib.Pow.{pow_mono}
