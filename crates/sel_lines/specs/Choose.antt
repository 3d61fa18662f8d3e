-- The output for `choose MASK T F`.
use Rattle.std.specs.Prelude.{ℕ, ◌==◌, ◌&&◌, List, [], ◌∷◌, length, count_by, Option, None, Some}
use Rattle.std.specs.Prelude.{option_map, if◌then◌else◌}
use Rattle.sel_arrow.specs.Value.{Value, is_null}
use Rattle.sel_ternary.specs.Choose.{choose}
use Rattle.sel_kernels.specs.Select.{effective_mask}
use Rattle.sel_lines.specs.Columns.{column_of, column_text}
use Rattle.sel_lines.specs.Numbers.{number_of, truth_of}
use Rattle.sel_lines.specs.Words.{if_both}

-- The if-then-else of two columns; none if the mask has a null or the lengths do not match.
abbrev pub choose_result : List Value → List Value → List Value → Option (List Value)
choose_result mask ts fs =
    if (count_by is_null mask == 0) && ((length ts == length mask) && (length fs == length mask))
    then Some (choose (effective_mask mask) ts fs)
    else None

-- The if-then-else, printed.
abbrev pub choose_answer : List Value → List Value → List Value → Option (List ℕ)
choose_answer mask ts fs = option_map column_text (choose_result mask ts fs)

-- The output for a mask and two columns; none if one of them is none.
abbrev pub choose_read : Option (List Value) → Option (List Value) → Option (List Value) →
    Option (List ℕ)
choose_read None ts fs = None
choose_read (Some mask) ts fs = if_both (choose_answer mask) ts fs

-- The output for the arguments of `choose`.
abbrev pub choose_words : List (List ℕ) → Option (List ℕ)
choose_words (mask ∷ ts ∷ fs ∷ []) =
    choose_read (column_of truth_of mask) (column_of number_of ts) (column_of number_of fs)
choose_words _ = None
