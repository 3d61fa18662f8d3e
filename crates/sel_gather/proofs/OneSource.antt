-- Rows gathered from one column: the data buffers of the column alone exceed no limit.
use Rattle.sel_gather.proofs.Common.{SelectsFrom, Result, PolarsError, IsErrAnd, IsLimitOrMemory, err_from_is_err_and, ◌≡◌, inl, inr, ℕ, suc, ◌+◌, ◌<◌, true}
use Rattle.sel_gather.proofs.Common.{◌&&◌, ◌==◌, List, [], ◌∷◌, length, map, ap, subst, ◌∙◌, arith, get_or, Limit, row_count, type_of, types_of_each}
use Rattle.sel_gather.proofs.Common.{well_formed, all_well_formed, Value, Column, Row_of-Column, end_of-Column, more_of-Column, LargeBinary, BinaryView}
use Rattle.sel_gather.proofs.Common.{Utf8View, LargeList', FixedSizeList', Struct', and_first, and_second, has_lists, has_blocks, struct_covered, columns_in}
use Rattle.sel_gather.proofs.Common.{field, joined_items, part_at, exceeded_limits, exceeded_in_parts, exceeded_taken, exceeded_in_fields}
use Rattle.sel_arrow.specs.declared.array_ref.ArrayRef.{ArrayRef}
use Rattle.sel_gather.proofs.{Below.refused_more, Within.few_buffers_pass}

mutual
  pub one_source : (c : Column) → well_formed c ≡ true → (vs : List Value) (limit : Limit) → exceeded_taken (type_of c) (c ∷ []) vs limit → exceeded_limits (type_of c) vs limit
  one_source (LargeBinary column) formed vs limit h = h
  one_source (BinaryView column) formed vs limit h = few_buffers_pass (length column.buffers + 0) (omega (arith, column.buffers_fit)) limit h
  one_source (Utf8View column) formed vs limit h = few_buffers_pass (length column.bytes.buffers + 0) (omega (arith, column.bytes.buffers_fit)) limit h
  one_source (LargeList' offsets p values validity) formed vs limit (inl h) = inl h
  one_source (LargeList' offsets p values validity) formed vs limit (inr h) = inr (one_source values (has_lists offsets values validity formed).child (joined_items 0 vs) limit h)
  one_source (FixedSizeList' size len p values validity) formed vs limit (inl h) = inl h
  one_source (FixedSizeList' size len p values validity) formed vs limit (inr h) = inr (one_source values (has_blocks size len values validity formed).child (joined_items size vs) limit h)
  one_source (Struct' len n fields validity) formed vs limit h =
      one_fields _ fields len 0 (Struct' len n fields validity) (struct_covered len validity (all_well_formed len fields) formed).2
      (λ k below. let place : 0 + k ≡ k = omega arith in ap (λ i. field i (Struct' len n fields validity)) place) vs limit h
  one_source c formed vs limit h = absurd h

  one_fields : (n : _) (row : Row_of-Column n) (len j : ℕ) (c : Column) → all_well_formed len row ≡ true → ((k : ℕ) → k < length (columns_in row) → field (j + k) c ≡ get_or (columns_in row) k c) →
      (vs : List Value) (limit : Limit) → exceeded_in_fields (types_of_each row) j (c ∷ []) vs limit → exceeded_in_parts (types_of_each row) j vs limit
  one_fields n end_of-Column len j c all at vs limit h = absurd h
  one_fields n (more_of-Column x rest) len j c all at vs limit (inl h) =
      let two = and_first ((row_count x == len) && well_formed x) (all_well_formed len rest) all in
      let place : j ≡ j + 0 = omega arith in
      let same : field j c ≡ x = ap (λ i. field i c) place ∙ at 0 (omega arith) in
      inl (one_source x (and_second (row_count x == len) (well_formed x) two) (map (part_at j) vs) limit (subst (λ y. exceeded_taken (type_of x) (y ∷ []) (map (part_at j) vs) limit) same h))
  one_fields n (more_of-Column x rest) len j c all at vs limit (inr h) =
      inr (one_fields _ rest len (j + 1) c (and_second ((row_count x == len) && well_formed x) (all_well_formed len rest) all)
      (λ k below. let place : (j + 1) + k ≡ j + suc k = omega arith in ap (λ i. field i c) place ∙ at (suc k) (omega (arith, below)))
      vs limit h)

-- The error of gathering rows of one column is returned.
pub one_refused : (result : Result ArrayRef PolarsError) (c : Column) (vs : List Value) (fault : PolarsError) → well_formed c ≡ true → IsErrAnd result (λ e. e ≡ fault) → IsLimitOrMemory (exceeded_taken (type_of c) (c ∷ []) vs) fault →
    SelectsFrom result (type_of c) vs
one_refused result c vs fault formed is h =
    let p = err_from_is_err_and result is in
    let refusal = refused_more _ _ fault (λ limit past. one_source c formed vs limit past) h in
    rw (p.1, p.2) (record { rows = tt; dtype = tt; within = tt; refusal = refusal })
