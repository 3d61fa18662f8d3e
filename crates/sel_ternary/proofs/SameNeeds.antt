-- The limits that rows exceed depend only on the types and the data buffers of their columns.
use Rattle.sel_ternary.proofs.Common.{common_steps, ◌≡◌, inl, ℕ, zero, suc, ◌+◌, ◌<◌, true, All, List, [], ◌∷◌, length, take, drop, map, refl, sym, ap, subst}
use Rattle.sel_ternary.proofs.Common.{◌∙◌, arith, get_or, length-append, type_of, Shape, of_null, of_struct, shape_list, Value, Column, field, joined_items}
use Rattle.sel_ternary.proofs.Common.{part_at, exceeded_taken}
use Rattle.sel_bits.specs.declared.faults.Limit.{Limit}
use Rattle.sel_arrow.specs.Rows.{buffers_held, types_of_each, buffers_of_each}
use Rattle.sel_arrow.specs.declared.column.Column.TheVariants.{Struct', LargeList', FixedSizeList'}
use Rattle.std.{proofs.Common.inr, specs.Bool.⊤}
use Rattle.sel_arrow.specs.Shape.{Shapes, no_shapes, next_shape, of_large_binary, of_binary_view, of_utf8_view, of_large_list, of_fixed_size_list}
use Rattle.sel_arrow.specs.declared.column.Column.{Row_of-Column, end_of-Column, more_of-Column}
use Rattle.sel_gather.specs.{Children.child, Children.columns_in, Need.buffer_count, Need.buffers_joined, Need.ExceedsBuffers, Need.exceeded_in_fields}
use Rattle.sel_ternary.specs.WordKernels.{first_count, has_word_kernel}

-- The number of view columns in a column of this type.
abbrev mutual
  leaves : Shape → ℕ
  leaves of_binary_view = 1
  leaves of_utf8_view = 1
  leaves (of_large_list s) = leaves s
  leaves (of_fixed_size_list s size) = leaves s
  leaves (of_struct ss) = leaves_each ss
  leaves s = 0

  leaves_each : Shapes → ℕ
  leaves_each no_shapes = 0
  leaves_each (next_shape s ss) = leaves s + leaves_each ss

mutual
  held_long : (c : Column) → length (buffers_held c) ≡ leaves (type_of c)
  held_long (LargeList' offsets p values validity) = held_long values
  held_long (FixedSizeList' size len p values validity) = held_long values
  held_long (Struct' len n fields validity) = each_long _ fields
  held_long c = refl

  each_long : (n : _) (row : Row_of-Column n) → length (buffers_of_each row) ≡ leaves_each (types_of_each row)
  each_long n end_of-Column = refl
  each_long n (more_of-Column column columns) =
      length-append (buffers_held column) (buffers_of_each columns) ∙ ap (λ n. n + length (buffers_of_each columns)) (held_long column) ∙ ap (λ n. leaves (type_of column) + n) (each_long _ columns)

-- Two columns of one type with the same data buffers.
pub record Like (s : Shape) (c d : Column) : Type 0 where
  pub first : type_of c ≡ s
  pub second : type_of d ≡ s
  pub held : buffers_held c ≡ buffers_held d

-- The same of two lists of columns, pairwise.
abbrev pub AllLike : Shape → List Column → List Column → Type 0
AllLike s [] [] = ⊤
AllLike s (c ∷ cs) (d ∷ ds) = Like s c d × AllLike s cs ds
AllLike s cs ds = ⊥

mapped : (s t : Shape) (f : Column → Column) → ((c d : Column) → Like s c d → Like t (f c) (f d)) → (cs ds : List Column) → AllLike s cs ds → AllLike t (map f cs) (map f ds)
mapped s t f each [] [] like = tt
mapped s t f each (c ∷ cs) (d ∷ ds) like = (each c d like.0, mapped s t f each cs ds like.1)
mapped s t f each cs ds like = absurd like

-- ---- view columns

pub held_count : (c : Column) → has_word_kernel (type_of c) ≡ true → first_count (buffers_held c) ≡ buffer_count c
held_count (LargeList' offsets p values validity) is = absurd cc
held_count (FixedSizeList' size len p values validity) is = absurd cc
held_count (Struct' len n fields validity) is = absurd cc
held_count c is = refl

joined : (s : Shape) → has_word_kernel s ≡ true → (cs ds : List Column) → AllLike s cs ds → buffers_joined cs ≡ buffers_joined ds
joined s viewed [] [] like = refl
joined s viewed (c ∷ cs) (d ∷ ds) like = grind (arith, common_steps, held_count, (joined s viewed cs ds like.1))
joined s viewed cs ds like = absurd like

-- ---- children

pub list_child : (c : Column) (s : Shape) → type_of c ≡ of_large_list s → (type_of (child c) ≡ s) × (buffers_held (child c) ≡ buffers_held c)
list_child (LargeList' offsets p values validity) s is = (cc, refl)
list_child c s is = absurd (cc is)

pub block_child : (c : Column) (s : Shape) (w : ℕ) → type_of c ≡ of_fixed_size_list s w → (type_of (child c) ≡ s) × (buffers_held (child c) ≡ buffers_held c)
block_child (FixedSizeList' size len p values validity) s w is = (cc, refl)
block_child c s w is = absurd (cc is)

lists_like : (s : Shape) (c d : Column) → Like (of_large_list s) c d → Like s (child c) (child d)
lists_like s c d like = grind (arith, common_steps, list_child)

blocks_like : (s : Shape) (w : ℕ) (c d : Column) → Like (of_fixed_size_list s w) c d → Like s (child c) (child d)
blocks_like s w c d like = grind (arith, common_steps, block_child)

-- ---- fields

-- The data buffers of field k.
abbrev piece : ℕ → Shapes → List (List (List ℕ)) → List (List (List ℕ))
piece k no_shapes held = []
piece zero (next_shape s ss) held = take (leaves s) held
piece (suc k) (next_shape s ss) held = piece k ss (drop (leaves s) held)

pub fields_long : (n : _) (row : Row_of-Column n) → length (shape_list (types_of_each row)) ≡ length (columns_in row)
fields_long n end_of-Column = refl
fields_long n (more_of-Column column columns) = ap suc (fields_long _ columns)

row_piece : (n : _) (row : Row_of-Column n) (k : ℕ) (d : Column) → k < length (columns_in row) →
    (type_of (get_or (columns_in row) k d) ≡ get_or (shape_list (types_of_each row)) k of_null) × (buffers_held (get_or (columns_in row) k d) ≡ piece k (types_of_each row) (buffers_of_each row))
row_piece n end_of-Column k d below = absurd (omega (arith, below))
row_piece n (more_of-Column column columns) zero d below = grind (arith, common_steps, held_long)
row_piece n (more_of-Column column columns) (suc k) d below = grind (arith, common_steps, held_long, (row_piece _ columns k d (omega (arith, below))))

field_piece : (c : Column) (ss : Shapes) → type_of c ≡ of_struct ss → (k : ℕ) → k < length (shape_list ss) →
    (type_of (field k c) ≡ get_or (shape_list ss) k of_null) × (buffers_held (field k c) ≡ piece k ss (buffers_held c))
field_piece (Struct' len n fields validity) ss is k below =
    let same : types_of_each fields ≡ ss = cc in
    let long = fields_long _ fields in
    let there : k < length (shape_list (types_of_each fields)) = subst (λ (ts : Shapes). k < length (shape_list ts)) (sym same) below in
    let found = row_piece _ fields k (Struct' len n fields validity) (omega (arith, there, long)) in
    (found.0 ∙ ap (λ (ts : Shapes). get_or (shape_list ts) k of_null) same, found.1 ∙ ap (λ (ts : Shapes). piece k ts (buffers_of_each fields)) same)
field_piece c ss is k below = absurd (cc is)

fields_like : (ss : Shapes) (k : ℕ) → k < length (shape_list ss) → (c d : Column) → Like (of_struct ss) c d → Like (get_or (shape_list ss) k of_null) (field k c) (field k d)
fields_like ss k below c d like =
    let one = field_piece c ss like.first k below in
    let two = field_piece d ss like.second k below in
    record { first = one.0; second = two.0; held = one.1 ∙ ap (piece k ss) like.held ∙ sym two.1 }

-- ---- all types

mutual
  -- Rows exceed the same limits with columns of the same type and data buffers.
  pub same_needs : (s : Shape) (cs ds : List Column) → AllLike s cs ds → (vs : List Value) (limit : Limit) → exceeded_taken s cs vs limit → exceeded_taken s ds vs limit
  same_needs of_large_binary cs ds like vs limit past = past
  same_needs of_binary_view cs ds like vs limit past = subst (λ n. ExceedsBuffers n limit) (joined of_binary_view refl cs ds like) past
  same_needs of_utf8_view cs ds like vs limit past = subst (λ n. ExceedsBuffers n limit) (joined of_utf8_view refl cs ds like) past
  same_needs (of_large_list s) cs ds like vs limit (inl past) = inl past
  same_needs (of_large_list s) cs ds like vs limit (inr past) =
      inr (same_needs s (map child cs) (map child ds) (mapped (of_large_list s) s child (lists_like s) cs ds like) (joined_items 0 vs) limit past)
  same_needs (of_fixed_size_list s w) cs ds like vs limit (inl past) = inl past
  same_needs (of_fixed_size_list s w) cs ds like vs limit (inr past) =
      inr (same_needs s (map child cs) (map child ds) (mapped (of_fixed_size_list s w) s child (blocks_like s w) cs ds like) (joined_items w vs) limit past)
  same_needs (of_struct ss) cs ds like vs limit past =
      same_fields ss 0 cs ds (λ k below. let place : 0 + k ≡ k = omega arith in
      subst (λ n. AllLike (get_or (shape_list ss) k of_null) (map (field n) cs) (map (field n) ds)) (sym place)
      (mapped (of_struct ss) (get_or (shape_list ss) k of_null) (field k) (fields_like ss k below) cs ds like)) vs limit past
  same_needs s cs ds like vs limit past = absurd past

  same_fields : (ss : Shapes) (j : ℕ) (cs ds : List Column) → ((k : ℕ) → k < length (shape_list ss) → AllLike (get_or (shape_list ss) k of_null) (map (field (j + k)) cs) (map (field (j + k)) ds)) →
      (vs : List Value) (limit : Limit) → exceeded_in_fields ss j cs vs limit → exceeded_in_fields ss j ds vs limit
  same_fields no_shapes j cs ds like vs limit past = absurd past
  same_fields (next_shape s ss) j cs ds like vs limit (inl past) =
      let place : j + 0 ≡ j = omega arith in
      inl (same_needs s (map (field j) cs) (map (field j) ds) (subst (λ n. AllLike s (map (field n) cs) (map (field n) ds)) place (like 0 (omega arith))) (map (part_at j) vs) limit past)
  same_fields (next_shape s ss) j cs ds like vs limit (inr past) =
      inr (same_fields ss (j + 1) cs ds (λ k below. let place : j + suc k ≡ (j + 1) + k = omega arith in
      subst (λ n. AllLike (get_or (shape_list ss) k of_null) (map (field n) cs) (map (field n) ds)) place (like (suc k) (omega (arith, below)))) vs limit past)

-- Columns of the same types with the same data buffers.
pub likes : (s : Shape) (cs ds : List Column) → All (λ c. type_of c ≡ s) cs → map type_of cs ≡ map type_of ds → map buffers_held cs ≡ map buffers_held ds → AllLike s cs ds
likes s [] [] of types held = tt
likes s (c ∷ cs) (d ∷ ds) of types held =
    let first : type_of c ≡ s = of 0 c (omega arith) in
    let one : type_of c ≡ type_of d = cc types in
    let more : map type_of cs ≡ map type_of ds = cc types in
    let two : buffers_held c ≡ buffers_held d = cc held in
    let others : map buffers_held cs ≡ map buffers_held ds = cc held in
    (record { first = first; second = sym one ∙ first; held = two }, likes s cs ds (λ k e below. of (suc k) e (omega (arith, below))) more others)
likes s cs ds of types held = absurd (cc types)

-- The relation is symmetric.
pub turned : (s : Shape) (cs ds : List Column) → AllLike s cs ds → AllLike s ds cs
turned s [] [] like = tt
turned s (c ∷ cs) (d ∷ ds) like = (record { first = like.0.second; second = like.0.first; held = sym like.0.held }, turned s cs ds like.1)
turned s cs ds like = absurd like
