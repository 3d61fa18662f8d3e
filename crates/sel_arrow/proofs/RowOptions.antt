-- Optional values as values with a validity.
use Rattle.std.proofs.Common.{◌≡◌, ℤ, refl, ap, List, [], ◌∷◌, map, Bool, false, Option, Some, None, is_some, unwrap_or}
use Rattle.sel_arrow.proofs.Common.{hidden, number_value, bool_value, Null, Number, Truth}

pub number_options : {T : Type 0} (number : T → ℤ) (least : T) (rows : List (Option T))
    → hidden (map is_some rows) (map (λ x. Number (number x)) (map (λ row. unwrap_or row least) rows)) ≡ map (number_value number) rows
number_options number least [] = refl
number_options number least (None ∷ rows) = ap (λ vs. Null ∷ vs) (number_options number least rows)
number_options number least (Some x ∷ rows) = ap (λ vs. Number (number x) ∷ vs) (number_options number least rows)

pub truth_options : (rows : List (Option Bool)) → hidden (map is_some rows) (map Truth (map (λ row. unwrap_or row false) rows)) ≡ map bool_value rows
truth_options [] = refl
truth_options (None ∷ rows) = ap (λ vs. Null ∷ vs) (truth_options rows)
truth_options (Some b ∷ rows) = ap (λ vs. Truth b ∷ vs) (truth_options rows)
