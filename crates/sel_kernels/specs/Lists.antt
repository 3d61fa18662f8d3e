-- Elements of lists, with one index for all lists.
use Rattle.std.specs.Prelude.{ℕ, ◌+◌, ◌-◌, ℤ, Bool, false, List, [], ◌∷◌, map, length, Option, None}
use Rattle.std.specs.Prelude.{slice_index, if◌then◌else◌}
use Rattle.std.specs.List.{list_any, range_with_len}
use Rattle.std.specs.Option.{option_map, is_none}
use Rattle.sel_bits.specs.Bits.{Bits}
use Rattle.sel_bits.specs.Place.{place}
use Rattle.sel_bits.specs.Validity.{valid_at}
use Rattle.sel_arrow.specs.Nested.{list_of}
use Rattle.sel_arrow.specs.Pieces.{rows_between}
use Rattle.sel_arrow.specs.Value.{Value, Null, Items, listed}
use Rattle.sel_kernels.specs.Elements.{element_at}

-- The element of a row at an index; null if the row is null or the index is out of bounds (polars:
-- list element access).
abbrev pub element_of : ℤ → Value → Value
element_of index (Items values) = element_at (listed values) (place index (length (listed values)))
element_of index value = Null

-- Entry k is the element of row k at the index (polars: list element access).
abbrev pub list_get : List Value → ℤ → List Value
list_get rows index = map (element_of index) rows

-- Whether a row is a list, not null, and the index is out of bounds for it (polars: list element
-- access).
abbrev pub lacks_place : ℤ → Value → Bool
lacks_place index (Items values) = is_none (place index (length (listed values)))
lacks_place index value = false

-- Whether the index is out of bounds for some list (polars: the check for an index out of bounds).
abbrev pub oob : List Value → ℤ → Bool
oob rows index = list_any (lacks_place index) rows

-- The child row of list k at an index; none if the list is null or the index is out of bounds
-- (Arrow columnar format: variable-size list layout).
abbrev pub child_place : List ℕ → Option Bits → ℤ → ℕ → Option ℕ
child_place offsets validity index k =
    if valid_at validity k
    then option_map (λ i. slice_index offsets k + i)
    (place index (slice_index offsets (k + 1) - slice_index offsets k))
    else None

-- The child row of each list at the index.
abbrev pub places_in : List ℕ → Option Bits → ℤ → List (Option ℕ)
places_in offsets validity index =
    map (child_place offsets validity index) (range_with_len 0 (rows_between offsets))

-- A list of one element for each value.
abbrev pub unit_lists : List Value → List Value
unit_lists values = map (λ value. list_of (value ∷ [])) values
