-- Rows of several columns, column by column.
use Rattle.sel_kernels.proofs.Common.{common_steps, map-map, ◌≡◌, ℕ, ◌+◌, ◌<◌, true, false, cond, List, [], ◌∷◌, ◌++◌, length, get_or, map, take, arith, refl, ap, sym}
use Rattle.sel_kernels.proofs.Common.{◌∙◌, ◌==◌, count_by, list_all, ne_eqb, get_or-map, length-map, map-append, take_more, list_all-map, sum_by-cons}
use Rattle.sel_kernels.proofs.Common.{PolarsError, ComputeError, rows, type_of, Value, ArrayRef, all_at, and_first, rows_pass, IsLimitOrMemory, ExceedsNone}
use Rattle.sel_kernels.proofs.Common.{exceeded_limits, take_rows, all_within, select, effective_mask, is_true, length-select, All, All-push, Column, IsField}
use Rattle.sel_kernels.proofs.Common.{length-rows, mapped_more, subst, well_formed}
use Rattle.sel_bits.specs.declared.faults.PolarsError.TheVariants.{OutOfMemory, SizeLimit}
use Rattle.sel_arrow.specs.Shape.{of_int64}
use Rattle.sel_kernels.specs.SelectRows.{rows_of_arrays, type_of_each, select_rows_of, selection_fits, exceeded_selected}

-- ---- what the precondition implies

pub long_at : (columns : List ArrayRef) (mask indices : List Value) (i : ℕ) (d : ArrayRef) → selection_fits (rows_of_arrays columns) mask indices ≡ true → i < length columns →
    length (rows (get_or columns i d).column) ≡ length mask
long_at columns mask indices i d fits h = grind (arith, common_steps, list_all-map, and_first, count_by, all_at)

count_forced : (mask : List Value) → count_by (λ b. b) (effective_mask mask) ≡ count_by is_true mask
count_forced [] = refl
count_forced (v ∷ mask) = grind (arith, common_steps, sum_by-cons, cond, (count_forced mask))

-- The number of selected rows.
pub kept_count : (xs mask : List Value) → length xs ≡ length mask → length (select xs (effective_mask mask)) ≡ count_by is_true mask
kept_count xs mask long = length-select xs (effective_mask mask) (long ∙ sym (length-map mask is_true)) ∙ count_forced mask

-- A column that is not as long as the mask breaks the precondition.
pub unfit_at : (columns : List ArrayRef) (mask indices : List Value) (i : ℕ) (x : ArrayRef) → i < length columns → x ≡ get_or columns i x → (length (rows x.column) ≡ length mask → ⊥) →
    false ≡ selection_fits (rows_of_arrays columns) mask indices
unfit_at columns mask indices i x h at other = grind (arith, common_steps, ne_eqb, count_by, list_all-map)

pub all_long : (columns : List ArrayRef) (mask indices : List Value) → list_all (λ c. length (rows c.column) == length mask) columns ≡ true →
    all_within (count_by is_true mask) indices ≡ selection_fits (rows_of_arrays columns) mask indices
all_long columns mask indices each = grind (arith, common_steps, count_by, list_all-map)

-- ---- one more column

pub mapped_step : {A B : Type 0} (f g : A → B) (xs sel new : List A) (i : ℕ) (x taken : A) → i < length xs → x ≡ get_or xs i x → new ≡ sel ++ taken ∷ [] → f taken ≡ g x →
    map f sel ≡ map g (take i xs) → map f new ≡ map g (take (i + 1) xs)
mapped_step f g xs sel new i x taken h at made same so_far = grind (arith, common_steps, map-append, take_more)

pub rows_mapped : (mask indices : List Value) (columns : List ArrayRef) →
    map (λ c. take_rows (select (rows c.column) (effective_mask mask)) indices) columns ≡ select_rows_of (rows_of_arrays columns) mask indices
rows_mapped mask indices columns = sym (map-map (λ xs. take_rows (select xs (effective_mask mask)) indices) (λ (c : ArrayRef). rows c.column) columns)

-- ---- errors

pub refused_some : (columns : List ArrayRef) (mask indices : List Value) (i : ℕ) (x : ArrayRef) (fault : PolarsError) → i < length columns → x ≡ get_or columns i x →
    IsLimitOrMemory (exceeded_limits (type_of x.column) (take_rows (select (rows x.column) (effective_mask mask)) indices)) fault → IsLimitOrMemory (exceeded_selected columns mask indices) fault
refused_some columns mask indices i x OutOfMemory h at refused = tt
refused_some columns mask indices i x (SizeLimit limit) h at refused = (i, x, h, sym at, refused)
refused_some columns mask indices i x ComputeError h at refused = absurd refused

-- The result exceeds no limit.
pub none_past : (columns selected : List ArrayRef) (mask indices : List Value) → rows_of_arrays selected ≡ map (λ c. take_rows (select (rows c.column) (effective_mask mask)) indices) columns → type_of_each selected ≡ type_of_each columns →
    ExceedsNone (exceeded_selected columns mask indices)
none_past columns selected mask indices same types limit exceeded_limits =
    let taken = λ (c : ArrayRef). take_rows (select (rows c.column) (effective_mask mask)) indices in
    let shown = λ (c : ArrayRef). rows c.column in
    let type = λ (c : ArrayRef). type_of c.column in
    let i = exceeded_limits.0 in
    let x = exceeded_limits.1 in
    let s = get_or selected i x in
    let there : i < length selected = omega (arith, exceeded_limits.2, length-map selected shown, length-map columns taken, ap length same) in
    let is_rows : rows s.column ≡ taken x = sym (get_or-map shown selected i x [] there) ∙ ap (λ l. get_or l i []) same ∙ get_or-map taken columns i x [] exceeded_limits.2 ∙ ap taken exceeded_limits.3 in
    let is_type : type_of s.column ≡ type_of x.column = sym (get_or-map type selected i x of_int64 there) ∙ ap (λ l. get_or l i of_int64) types ∙ get_or-map type columns i x of_int64 exceeded_limits.2 ∙ ap type exceeded_limits.3 in
    rows_pass s.column (type_of x.column) (taken x) s.formed is_type is_rows limit exceeded_limits.4

-- ---- the fields of a struct

-- The first i columns, of which each has the rows that a function gives of it, as fields of n rows.
pub record AreFields (of : Column → List Value) (n : ℕ) (columns made : List Column) (i : ℕ) : Type 0 where
  pub items : map rows made ≡ map of (take i columns)
  pub dtypes : map type_of made ≡ map type_of (take i columns)
  pub fields : All (IsField n) made

pub fields_more : (of : Column → List Value) (n : ℕ) (columns old new : List Column) (i : ℕ) (column part : Column) → i < length columns → column ≡ get_or columns i column → new ≡ old ++ part ∷ [] →
    rows part ≡ of column → type_of part ≡ type_of column → length (of column) ≡ n → well_formed part ≡ true → AreFields of n columns old i → AreFields of n columns new (i + 1)
fields_more of n columns old new i column part h is pushed same kind long formed so_far = record {
  items = mapped_more rows of columns old new i column part h is pushed same so_far.items;
  dtypes = mapped_more type_of type_of columns old new i column part h is pushed kind so_far.dtypes;
  fields = subst (All (IsField n)) (sym pushed) (All-push (IsField n) old part so_far.fields (sym (length-rows part) ∙ ap length same ∙ long, formed));
}
