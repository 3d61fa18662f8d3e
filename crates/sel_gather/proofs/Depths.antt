-- The size of a type: the number of types in it, including itself.
use Rattle.sel_gather.proofs.Common.{◌≡◌, ℕ, zero, suc, ◌+◌, ◌≤◌, ◌<◌, List, [], ◌∷◌, length, map, ap, arith, get_or, Shape, Shapes, no_shapes, next_shape}
use Rattle.sel_gather.proofs.Common.{of_large_list, of_fixed_size_list, of_struct, shapes_of}

abbrev mutual
  pub size_of : Shape → ℕ
  size_of (of_large_list s) = size_of s + 1
  size_of (of_fixed_size_list s w) = size_of s + 1
  size_of (of_struct ss) = sizes_of ss + 1
  size_of s = 1

  pub sizes_of : Shapes → ℕ
  sizes_of no_shapes = 0
  sizes_of (next_shape s ss) = size_of s + sizes_of ss

-- The type of a field is no larger than all field types together.
pub one_size : {A : Type 0} (f : A → Shape) (xs : List A) (j : ℕ) (x : A) → j < length xs → x ≡ get_or xs j x → size_of (f x) ≤ sizes_of (shapes_of (map f xs))
one_size f [] j x h is = absurd (omega (arith, h))
one_size f (y ∷ xs) zero x h is = omega (arith, ap (λ z. size_of (f z)) is)
one_size f (y ∷ xs) (suc j) x h is = let rest = one_size f xs j x (omega arith) is in omega (arith, rest)
