-- The output for `flatten H W:COL ...`.
use Rattle.std.specs.Prelude.{ℕ, ◌==◌, ◌&&◌, nat_lt, List, [], ◌∷◌, map, length, Option, None, Some}
use Rattle.std.specs.Prelude.{option_map, if◌then◌else◌, codes}
use Rattle.std.specs.List.{slice_split}
use Rattle.sel_bits.specs.Limits.{max_rows}
use Rattle.sel_arrow.specs.Value.{Value}
use Rattle.sel_kernels.specs.Flatten.{flatten, parts_fit}
use Rattle.sel_lines.specs.Columns.{all_some, column_of, column_text}
use Rattle.sel_lines.specs.Numbers.{number_of, size_of}
use Rattle.sel_lines.specs.Words.{if_both}

-- A width and the rows of a column, from the two words around a colon.
abbrev pub part_of_halves : List (List ℕ) → Option (ℕ × List Value)
part_of_halves (width ∷ column ∷ []) =
    if_both (λ w rows. Some (w, rows)) (size_of width) (column_of number_of column)
part_of_halves _ = None

-- A width and the rows of a column, from a word.
abbrev pub flatten_part : List ℕ → Option (ℕ × List Value)
flatten_part word = part_of_halves (slice_split (λ b. b == 58) word)

-- The horizontal flatten of columns; none if there is no column or a column does not fit its width.
abbrev pub side_by_side : ℕ → List (List Value) → List ℕ → Option (List Value)
side_by_side h xss ws =
    if nat_lt 0 (length xss) && parts_fit h xss ws then Some (flatten xss ws h) else None

-- The rows, printed, or the size limit if there are more than a column can have.
abbrev pub flat_text : List Value → List ℕ
flat_text rows =
    if nat_lt max_rows (length rows) then codes "size limit rows" else column_text rows

-- The horizontal flatten of the parts, printed; none if they do not fit.
abbrev pub flatten_answer : ℕ → List (ℕ × List Value) → Option (List ℕ)
flatten_answer h parts =
    option_map flat_text (side_by_side h (map (λ part. part.1) parts) (map (λ part. part.0) parts))

-- The output for the arguments of `flatten`.
abbrev pub flatten_words : List (List ℕ) → Option (List ℕ)
flatten_words [] = None
flatten_words (height ∷ parts) =
    if_both flatten_answer (size_of height) (all_some (map flatten_part parts))
