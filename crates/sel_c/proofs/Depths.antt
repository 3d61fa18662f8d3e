-- Children and elements of a column have at most as many levels as the column.
use Rattle.std.proofs.lemmas.Grind.{common_steps}
use Rattle.std.proofs.Common.{rules, ◌≤◌, ◌<◌, ℕ, zero, suc, List, [], ◌∷◌, length, map, All, arith, slice_index_or}
use Rattle.sel_c.proofs.Common.{depth, deepest, type_of, types_of_each, Shape, Column, Row_of-Column, end_of-Column, more_of-Column, first_shape, child, columns_in, field, fields_of}

pub child_depth : (c : Column) → depth (type_of (child c)) ≤ depth (type_of c)
child_depth c = grind (arith, common_steps)

nth_depth : {n : _} (fields : Row_of-Column n) (j : ℕ) (d : Column) → j < length (columns_in fields) → depth (type_of (slice_index_or (columns_in fields) j d)) ≤ deepest (types_of_each fields)
nth_depth end_of-Column j d h = absurd (omega (arith, h))
nth_depth (more_of-Column c cs) zero d h = omega arith
nth_depth (more_of-Column c cs) (suc j) d h = let others = nth_depth cs j d (omega (arith, h)) in omega (arith, others)

pub field_depth : (c : Column) (j : ℕ) → j < length (fields_of c) → depth (type_of (field j c)) ≤ depth (type_of c)
field_depth c j h = search (rules, nth_depth)

-- The first of several types has no more levels than all are allowed.
pub first_depth : {A : Type 0} (f : A → Shape) (xs : List A) (n : ℕ) → All (λ x. depth (f x) ≤ n) xs → depth (first_shape (map f xs)) ≤ n
first_depth f [] n all = omega arith
first_depth f (x ∷ xs) n all = all zero x (omega arith)
