-- What holds of the text of each value, if it holds of the texts without children and in brackets.
use Rattle.std.proofs.Common.{◌≡◌, ◌<◌, ℕ, ℤ, ◌^◌, Bool, true, List, [], ◌∷◌, map}
use Rattle.sel_text.proofs.Common.{⊤, codes, signed_decimal, mag, list_all, and_first, and_second, Shape, Shapes, no_shapes, next_shape, Value, Null, Truth, Number, Bytes, Items, Tuple, Values, no_values, next_value, all_fit, fields_fit, fits, fits_bytes, bool_text, bracketed, bytes_text, item_shape, item_texts, parenthesized, part_shapes, part_texts, value_text}
use Rattle.sel_text.proofs.Told.{small_number}

-- It holds of each of several texts.
abbrev pub Each : (List ℕ → Type 0) → List (List ℕ) → Type 0
Each P [] = ⊤
Each P (text ∷ texts) = P text × Each P texts

module _ (P : List ℕ → Type 0) (null : P (codes "null")) (truth : (t : Bool) → P (bool_text t)) (number : (z : ℤ) → mag z < 2 ^ 128 → P (signed_decimal z))
    (bytes : (s : Shape) (bs : List ℕ) → fits_bytes s bs ≡ true → P (bytes_text s bs))
    (list : (texts : List (List ℕ)) → Each P texts → P (bracketed texts)) (tuple : (texts : List (List ℕ)) → Each P texts → P (parenthesized texts)) where
  mutual
    value_has : (v : Value) (s : Shape) → fits s v ≡ true → P (value_text s v)
    value_has Null s fit = null
    value_has (Truth t) s fit = truth t
    value_has (Number z) s fit = number z (small_number s z fit)
    value_has (Bytes bs) s fit = bytes s bs fit
    value_has (Items vs) s fit = list (item_texts (item_shape s) vs) (items_have vs (item_shape s) (and_second _ _ fit))
    value_has (Tuple vs) s fit = tuple (part_texts (part_shapes s) vs) (parts_have vs (part_shapes s) (and_second _ _ fit))

    items_have : (vs : Values) (s : Shape) → all_fit s vs ≡ true → Each P (item_texts s vs)
    items_have no_values s fit = tt
    items_have (next_value v vs) s fit = (value_has v s (and_first _ _ fit), items_have vs s (and_second _ _ fit))

    parts_have : (vs : Values) (ss : Shapes) → fields_fit ss vs ≡ true → Each P (part_texts ss vs)
    parts_have no_values ss fit = tt
    parts_have (next_value v vs) no_shapes fit = tt
    parts_have (next_value v vs) (next_shape s ss) fit = (value_has v s (and_first _ _ fit), parts_have vs ss (and_second _ _ fit))

  pub rows_have : (s : Shape) (vs : List Value) → list_all (fits s) vs ≡ true → Each P (map (value_text s) vs)
  rows_have s [] fit = tt
  rows_have s (v ∷ vs) fit = (value_has v s (and_first _ _ fit), rows_have s vs (and_second _ _ fit))
