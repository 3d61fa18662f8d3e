-- Several columns of one type.
use Rattle.std.proofs.Common.{arith, ◌≡◌, ℕ, ◌<◌, All, Some, List, [], ◌∷◌, length, map, refl, sym, ap, ◌∙◌, get_or, Bor, Option}
use Rattle.sel_c.proofs.Common.{slice_get, length-map, get_or-map, All-map, type_of, Shape, ArrayRef, first_shape, AreAlike, Limit, Column, Null, rows, pick, exceeded_taken}
use Rattle.std.proofs.lemmas.Option.{get_or_from_slice_get}
use Rattle.sel_gather.specs.Sources.{first_type}

pub first_same : (arrays : List ArrayRef) → first_shape (map (λ array. type_of array.column) arrays) ≡ first_type (map (λ array. array.column) arrays)
first_same [] = refl
first_same (array ∷ arrays) = refl

-- Columns of one type have types that are all the same.
pub alike_types : (arrays : List ArrayRef) → All (λ a. type_of a.column ≡ first_shape (map (λ array. type_of array.column) arrays)) arrays → AreAlike (map (λ array. type_of array.column) arrays)
alike_types arrays all = All-map (λ (s : Shape). s ≡ first_shape (map (λ (array : ArrayRef). type_of array.column) arrays)) (λ (array : ArrayRef). type_of array.column) arrays all

pub alike_columns : (arrays : List ArrayRef) → AreAlike (map (λ array. type_of array.column) arrays) → All (λ a. type_of a.column ≡ first_type (map (λ array. array.column) arrays)) arrays
alike_columns arrays all k d below =
    let there : k < length (map (λ (array : ArrayRef). type_of array.column) arrays) = rw length-map below in
    sym (get_or-map (λ (array : ArrayRef). type_of array.column) arrays k d (type_of d.column) below) ∙ all k (type_of d.column) there ∙ first_same arrays

-- If a column has a different type from the first, the types are not all the same.
pub not_alike : (arrays : List ArrayRef) (k : ℕ) (a d : ArrayRef) → k < length arrays → a ≡ get_or arrays k d → (type_of a.column ≡ first_shape (map (λ array. type_of array.column) arrays) → ⊥) → AreAlike (map (λ array. type_of array.column) arrays) → ⊥
not_alike arrays k a d below is other all = grind (arith, alike_columns, first_same)

-- The type of the first of them.
pub first_type_is : (arrays : List ArrayRef) (first : ArrayRef) → Some first ≡ slice_get arrays 0 → type_of first.column ≡ first_shape (map (λ array. type_of array.column) arrays)
first_type_is [] first is = absurd cc
first_type_is (a ∷ arrays) first is = ap (λ (x : ArrayRef). type_of x.column) (sym (get_or_from_slice_get (a ∷ arrays) 0 first a (sym is)))

-- What holds of the limits that gathered rows exceed with borrows of the columns.
pub of_clones : (P : (Limit → Type 0) → Type 0) (cs : List (Bor Column)) (arrays : List ArrayRef) (ps : List (Option (ℕ × ℕ))) →
    map (λ c. c.now) cs ≡ map (λ a. a.column) arrays → map (λ c. rows c.now) cs ≡ map (λ a. rows a.column) arrays →
    P (exceeded_taken (first_type (map (λ c. c.now) cs)) (map (λ c. c.now) cs) (pick Null (map (λ c. rows c.now) cs) ps)) →
    P (exceeded_taken (first_shape (map (λ a. type_of a.column) arrays)) (map (λ a. a.column) arrays) (pick Null (map (λ a. rows a.column) arrays) ps))
of_clones P cs arrays ps lent same told = rw (first_same arrays, ← lent, ← same) told
