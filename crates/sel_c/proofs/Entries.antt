-- Results of element access for fixed-size lists, by the rows and the type of the lists.
use Rattle.std.proofs.lemmas.Grind.{common_steps}
use Rattle.sel_c.proofs.Common.{to_z-of_z, PolarsError, block_column, rows, Value, Number, error_status, list_index_out_of_bounds, ReturnsFirst, IsOkOrLimit}
use Rattle.std.proofs.Common.{arith, ◌≡◌, ℕ, ℤ, Bool, false, length, List, [], ◌∷◌, replicate, w64, FitsSigned, to_z, of_z, ap, sym, ◌∙◌}
use Rattle.sel_arrow.{specs.declared.fixed_size_list.FixedSizeListArray.FixedSizeListArray, proofs.NestedRows.length-rows}
use Rattle.sel_kernels.specs.Entries.{at_each, is_get_error, exceeded_entries, IsGetError}

-- The index that the call passes for each list is the given index for each row.
pub same-indices : (arr : FixedSizeListArray) (index : ℤ) → FitsSigned w64 index → at_each arr (to_z w64 (of_z w64 index)) ≡ replicate (length (rows (block_column arr))) (Number index)
same-indices arr index fits = ap (λ i. at_each arr i) (to_z-of_z w64 index fits) ∙ ap (λ n. replicate n (Number index)) (sym (length-rows (block_column arr)))

-- An error of a kernel for element access is out of memory, an index that is an error, or an exceeded limit.
pub get-error : (status : ℕ) (null_on_oob : Bool) (arr : FixedSizeListArray) (indices : List Value) (fault : PolarsError) → status ≡ error_status fault → IsGetError null_on_oob arr indices fault →
    ReturnsFirst status ((list_index_out_of_bounds, is_get_error null_on_oob arr indices ≡ false) ∷ []) (IsOkOrLimit status (exceeded_entries arr indices))
get-error status null_on_oob arr indices fault number refusal = grind (arith, common_steps)
