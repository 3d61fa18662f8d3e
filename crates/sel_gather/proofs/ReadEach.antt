-- What a function returns for each item of a list.
use Rattle.sel_gather.proofs.Common.{All, All-nil, All-cons, AreValidities, Bits, Bor, Column, IsValidityOf, Option, columns_of, option_copied, rows, type_of}
use Rattle.sel_gather.proofs.Common.{◌≡◌, List, [], ◌∷◌, map, refl, ap}
use Rattle.std.specs.List.{AllZip}

-- Where what is seen of a result is what is seen of its item, it is so of all.
pub each_seen : {S T C : Type 0} (R : S → T → Type 0) (f : S → C) (g : T → C) → ((x : S) (y : T) → R x y → g y ≡ f x) → (xs : List S) (ys : List T) → AllZip R xs ys → map g ys ≡ map f xs
each_seen R f g same [] [] each = refl
each_seen R f g same [] (y ∷ ys) each = absurd each
each_seen R f g same (x ∷ xs) [] each = absurd each
each_seen R f g same (x ∷ xs) (y ∷ ys) each =
    let rest = each_seen R f g same xs ys each.1 in
    (λ i. same x y each.0 i ∷ rest i)

-- What is so of a result is so of all.
pub each_all : {S T : Type 0} (R : S → T → Type 0) (Q : T → Type 0) → ((x : S) (y : T) → R x y → Q y) → (xs : List S) (ys : List T) → AllZip R xs ys → All Q ys
each_all R Q says [] [] each = All-nil Q
each_all R Q says [] (y ∷ ys) each = absurd each
each_all R Q says (x ∷ xs) [] each = absurd each
each_all R Q says (x ∷ xs) (y ∷ ys) each = All-cons Q y ys (says x y each.0) (each_all R Q says xs ys each.1)

-- The validity of each column.
pub each_told : (R : Bor Column → Option (Bor Bits) → Type 0) → ((c : Bor Column) (v : Option (Bor Bits)) → R c v → IsValidityOf (type_of c.now) (option_copied v) (rows c.now)) → (cs : List (Bor Column)) (vs : List (Option (Bor Bits))) → AllZip R cs vs →
    AreValidities (map option_copied vs) (columns_of cs)
each_told R says [] [] each = tt
each_told R says [] (v ∷ vs) each = absurd each
each_told R says (c ∷ cs) [] each = absurd each
each_told R says (c ∷ cs) (v ∷ vs) each = (says c v each.0, each_told R says cs vs each.1)
