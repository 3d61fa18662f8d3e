-- The output for `filter COL MASK`.
use Rattle.std.specs.Prelude.{ℕ, ◌==◌, List, [], ◌∷◌, length, Option, None, Some, if◌then◌else◌}
use Rattle.sel_arrow.specs.Value.{Value}
use Rattle.sel_kernels.specs.Select.{select, effective_mask}
use Rattle.sel_lines.specs.Numbers.{number_of, truth_of}
use Rattle.sel_lines.specs.Columns.{column_of, column_text}
use Rattle.sel_lines.specs.Words.{if_both}

-- The rows that the mask selects, printed; none if the lengths do not match.
abbrev pub filter_answer : List Value → List Value → Option (List ℕ)
filter_answer rows mask =
    if length rows == length mask
    then Some (column_text (select rows (effective_mask mask))) else None

-- The output for the arguments of `filter`.
abbrev pub filter_words : List (List ℕ) → Option (List ℕ)
filter_words (column ∷ mask ∷ []) =
    if_both filter_answer (column_of number_of column) (column_of truth_of mask)
filter_words _ = None
