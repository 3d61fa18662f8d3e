-- Horizontal flatten: its result, its precondition, and the limits that its result exceeds.
use Rattle.std.specs.Prelude.{ℕ, ◌*◌, ◌<◌, Bool, true, false, ◌&&◌, ◌||◌, ◌==◌, nat_lt, ◌⊎◌}
use Rattle.std.specs.Prelude.{List, [], ◌∷◌, ◌++◌, length, map, take, drop, if◌then◌else◌, Result}
use Rattle.std.specs.List.{flat_map, range_with_len}
use Rattle.sel_bits.specs.declared.faults.Limit.{Limit}
use Rattle.sel_bits.specs.declared.faults.PolarsError.{PolarsError}
use Rattle.sel_arrow.specs.Rows.{rows}
use Rattle.sel_arrow.specs.Shape.{Shape}
use Rattle.sel_arrow.specs.Value.{Value}
use Rattle.sel_arrow.specs.declared.array_ref.ArrayRef.{ArrayRef}
use Rattle.sel_arrow.specs.declared.column.Column.{Column}
use Rattle.sel_gather.specs.Gathers.{Selects}
use Rattle.sel_gather.specs.Need.{ExceedsRows, exceeded_taken}
use Rattle.sel_gather.specs.Sources.{first_type}

-- The columns of arrays, and the rows of each.
abbrev pub array_columns : List ArrayRef → List Column
array_columns arrays = map (λ a. a.column) arrays

abbrev pub array_rows : List ArrayRef → List (List Value)
array_rows arrays = map (λ a. rows a.column) arrays

-- The entries of a list in row r: w of them from r * w on, or all if the list has w entries.
abbrev pub row_part : {A : Type 0} → ℕ → List A → ℕ → List A
row_part r xs w = if length xs == w then xs else take w (drop (r * w) xs)

-- Row r: the entries of all lists in it, concatenated.
abbrev pub flat_row : {A : Type 0} → ℕ → List (List A) → List ℕ → List A
flat_row r [] ws = []
flat_row r (xs ∷ xss) [] = []
flat_row r (xs ∷ xss) (w ∷ ws) = row_part r xs w ++ flat_row r xss ws

-- The horizontal flatten: the first h rows, concatenated.
abbrev pub flatten : {A : Type 0} → List (List A) → List ℕ → ℕ → List A
flatten xss ws h = flat_map (λ r. flat_row r xss ws) (range_with_len 0 h)

-- Whether a list of n entries fits the width w, which is not 0: it has w entries for each of h
-- rows, or for a single row.
abbrev pub part_fits : ℕ → ℕ → ℕ → Bool
part_fits h n w = nat_lt 0 w && ((n == w * h) || (n == w))

-- Whether there is one width for each list, and each list fits its width for h rows.
abbrev pub parts_fit : {A : Type 0} → ℕ → List (List A) → List ℕ → Bool
parts_fit h [] [] = true
parts_fit h [] (w ∷ ws) = false
parts_fit h (xs ∷ xss) [] = false
parts_fit h (xs ∷ xss) (w ∷ ws) = part_fits h (length xs) w && parts_fit h xss ws

-- The limits that a horizontal flatten to h rows with these result rows exceeds: that of rows, and
-- those of a gather of the result rows. Without rows it exceeds none.
abbrev pub exceeded_flattened : ℕ → Shape → List Column → List Value → Limit → Type 0
exceeded_flattened h s columns rows limit =
    (0 < h) × (ExceedsRows (length rows) limit ⊎ exceeded_taken s columns rows limit)

-- The result is the horizontal flatten of these arrays to h rows, of the type of the first, which
-- exceeds no limit; or an error: out of memory, or a limit that the flatten exceeds.
abbrev pub Flattens : Result ArrayRef PolarsError → List ArrayRef → List ℕ → ℕ → Type 0
Flattens result arrays ws h =
    Selects result (first_type (array_columns arrays)) (flatten (array_rows arrays) ws h)
    (exceeded_flattened h (first_type (array_columns arrays)) (array_columns arrays)
    (flatten (array_rows arrays) ws h))
