-- The output for `dict KEYS VALUES`.
use Rattle.std.specs.Prelude.{ℕ, List, [], ◌∷◌, ◌++◌, length, Option, None, Some, option_map}
use Rattle.std.specs.Prelude.{if◌then◌else◌}
use Rattle.sel_arrow.specs.Value.{Value}
use Rattle.sel_kernels.specs.Dictionary.{propagated_keys, valid_values}
use Rattle.sel_kernels.specs.Pick.{all_within}
use Rattle.sel_lines.specs.Columns.{column_of, column_text}
use Rattle.sel_lines.specs.Numbers.{index_of}
use Rattle.sel_lines.specs.Texts.{string_value}
use Rattle.sel_lines.specs.Words.{if_both}

-- The keys and the values after null values are propagated into the keys; none if a non-null key is
-- out of bounds.
abbrev pub without_nulls : List Value → List Value → Option (List Value × List Value)
without_nulls keys values =
    if all_within (length values) keys
    then Some (propagated_keys keys values, valid_values values)
    else None

-- Two columns, printed, separated by a space.
abbrev pub both_text : List Value × List Value → List ℕ
both_text both = column_text both.0 ++ 32 ∷ column_text both.1

-- The keys and the values after null values are propagated, printed.
abbrev pub dict_answer : List Value → List Value → Option (List ℕ)
dict_answer keys values = option_map both_text (without_nulls keys values)

-- The output for the arguments of `dict`.
abbrev pub dict_words : List (List ℕ) → Option (List ℕ)
dict_words (keys ∷ values ∷ []) =
    if_both dict_answer (column_of index_of keys) (column_of string_value values)
dict_words _ = None
