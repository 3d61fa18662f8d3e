-- Masks that keep all rows or none, or choose all rows of one side, and calls on one row.
use Rattle.std.proofs.Common.{◌≡◌, ◌∙◌, ◌⊎◌, inl, inr, arith, refl, ℕ, zero, ℤ, pos, List, [], ◌∷◌, length, map-id, Bool, true, false, not, Option, Some, None, is_some, IsTrue}
use Rattle.std.proofs.lemmas.{Grind.common_steps, Simd.map-map, List.length-map, List.Sums.count_by-le-length, List.Sums.sum_by-cons}
use Rattle.sel_filter.proofs.Selects.{none_kept}
pub use Rattle.sel_filter.proofs.Selects.{all_kept}
use Rattle.sel_kernels.specs.Select.{effective_mask, select}
use Rattle.sel_arrow.specs.{Masked.bool_rows, Masked.number_rows, Value.Value, Value.Number}
use Rattle.sel_bits.specs.{Bits.Bits, Bits.count_true, Choose.choose}
use Rattle.sel_ternary.specs.Chosen.{chosen_rows, SideFits}
use Rattle.sel_c.proofs.Common.{all_within, take_rows}

pub all_forced : {A : Type 0} → (xs : List A) (bits : List Bool) (validity : Option Bits) (none : Bool) → is_some validity ≡ not none → none ≡ true → length xs ≡ length (bool_rows bits validity) → count_true bits ≡ length bits → select xs (effective_mask (bool_rows bits validity)) ≡ xs
all_forced xs bits validity none is so long all = grind (arith, common_steps, map-map, map-id, all_kept, length-map)

pub none_forced : {A : Type 0} → (xs : List A) (bits : List Bool) (validity : Option Bits) (none : Bool) → is_some validity ≡ not none → none ≡ true → length xs ≡ length (bool_rows bits validity) → count_true bits ≡ 0 → [] ≡ select xs (effective_mask (bool_rows bits validity))
none_forced xs bits validity none is so long all = grind (arith, common_steps, map-map, map-id, none_kept, length-map)

pub all_chosen : {A : Type 0} → (ms : List Bool) (ts fs : List A) → length ts ≡ length ms → length fs ≡ length ms → count_true ms ≡ length ms → choose ms ts fs ≡ ts
all_chosen [] [] fs long many all = refl
all_chosen (m ∷ ms) (t ∷ ts) (f ∷ fs) long many all = grind (arith, common_steps, sum_by-cons, count_by-le-length, (all_chosen ms ts fs))
all_chosen ms ts fs long many all = absurd (omega (arith, long, many))

pub none_chosen : {A : Type 0} → (ms : List Bool) (ts fs : List A) → length ts ≡ length ms → length fs ≡ length ms → count_true ms ≡ 0 → choose ms ts fs ≡ fs
none_chosen [] ts [] long many none = refl
none_chosen (m ∷ ms) (t ∷ ts) (f ∷ fs) long many none = grind (arith, common_steps, sum_by-cons, (none_chosen ms ts fs))
none_chosen ms ts fs long many none = absurd (omega (arith, long, many))

-- A scalar has as many rows as a mask of one row.
pub side_of_one : (t : Bool) (n m : ℕ) → n ≡ m → t ≡ true ⊎ m ≡ 1 → SideFits t n m
side_of_one true n m same is = same
side_of_one false n m same (inr one) = same ∙ one
side_of_one false n m same (inl wrong) = absurd (cc wrong)

pub chosen_of_one : (t f : Bool) (ms ts fs : List Value) → length ts ≡ length ms → length fs ≡ length ms → t ≡ true ⊎ length ms ≡ 1 → f ≡ true ⊎ length ms ≡ 1 →
    choose (effective_mask ms) ts fs ≡ chosen_rows t f (effective_mask ms) ts fs
chosen_of_one true true ms ts fs long many is so = refl
chosen_of_one true false (m ∷ []) (x ∷ []) (y ∷ []) long many is so = refl
chosen_of_one false true (m ∷ []) (x ∷ []) (y ∷ []) long many is so = refl
chosen_of_one false false (m ∷ []) (x ∷ []) (y ∷ []) long many is so = refl
chosen_of_one t f ms ts fs long many is so = grind (arith, common_steps)

-- An index in bounds of one row is that of the row.
only_at : (v : Value) (z : ℤ) → IsTrue (all_within 1 (Number z ∷ [])) → take_rows (v ∷ []) (Number z ∷ []) ≡ v ∷ []
only_at v (pos zero) within = refl
only_at v z within = grind (arith, common_steps)

pub only_taken : {T : Type 0} → (number : T → ℤ) (vs : List Value) (xs : List T) (validity : Option Bits) (some : Bool) → some ≡ is_some validity → some ≡ false → length vs ≡ 1 →
    length (number_rows number xs validity) ≡ 1 → IsTrue (all_within (length vs) (number_rows number xs validity)) → take_rows vs (number_rows number xs validity) ≡ vs
only_taken number (v ∷ []) (x ∷ []) None some is so one only within = only_at v (number x) within
only_taken number vs xs (Some bits) some is so one only within = absurd (cc (is, so))
only_taken number vs xs None some is so one only within = grind (arith, common_steps, length-map)
