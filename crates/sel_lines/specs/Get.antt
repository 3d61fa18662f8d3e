-- The output for `get LISTS INDEX`.
use Rattle.std.specs.Prelude.{ℕ, List, [], ◌∷◌, Option, None, Some}
use Rattle.sel_arrow.specs.Value.{Value, Number}
use Rattle.sel_kernels.specs.Lists.{list_get}
use Rattle.sel_lines.specs.Columns.{column_text}
use Rattle.sel_lines.specs.Lists.{lists_of}
use Rattle.sel_lines.specs.Numbers.{number_of}
use Rattle.sel_lines.specs.Words.{if_both}

-- The element of each list at the index, printed.
abbrev pub get_answer : List Value → Value → Option (List ℕ)
get_answer rows (Number index) = Some (column_text (list_get rows index))
get_answer rows _ = None

-- The output for the arguments of `get`.
abbrev pub get_words : List (List ℕ) → Option (List ℕ)
get_words (lists ∷ index ∷ []) = if_both get_answer (lists_of lists) (number_of index)
get_words _ = None
