-- The output for `take COL IDX`.
use Rattle.std.specs.Prelude.{ℕ, List, [], ◌∷◌, length, Option, None, Some, if◌then◌else◌}
use Rattle.sel_arrow.specs.Value.{Value}
use Rattle.sel_kernels.specs.Pick.{take_rows, all_within}
use Rattle.sel_lines.specs.Numbers.{number_of, index_of}
use Rattle.sel_lines.specs.Columns.{column_of, column_text}
use Rattle.sel_lines.specs.Words.{if_both}

-- The rows at the indices, printed; none if a non-null index is out of bounds.
abbrev pub take_answer : List Value → List Value → Option (List ℕ)
take_answer rows indices =
    if all_within (length rows) indices then Some (column_text (take_rows rows indices)) else None

-- The output for the arguments of `take`.
abbrev pub take_words : List (List ℕ) → Option (List ℕ)
take_words (column ∷ indices ∷ []) =
    if_both take_answer (column_of number_of column) (column_of index_of indices)
take_words _ = None
