-- The output for one line.
use Rattle.std.specs.Prelude.{ℕ, ◌==◌, ◌&&◌, List, [], ◌∷◌, length, Option, None, if◌then◌else◌}
use Rattle.std.specs.Prelude.{codes, bytes_eq, nat_le}
use Rattle.std.specs.List.{slice_split}
use Rattle.std.specs.Str.{is_utf8}
use Rattle.sel_lines.specs.Choose.{choose_words}
use Rattle.sel_lines.specs.Dict.{dict_words}
use Rattle.sel_lines.specs.Filter.{filter_words}
use Rattle.sel_lines.specs.Fixed.{fixed_words}
use Rattle.sel_lines.specs.Flatten.{flatten_words}
use Rattle.sel_lines.specs.Get.{get_words}
use Rattle.sel_lines.specs.Lines.{longest_line}
use Rattle.sel_lines.specs.Pext.{pext_words}
use Rattle.sel_lines.specs.Table.{table_words}
use Rattle.sel_lines.specs.Take.{take_words}

-- The output for a command and its arguments; none if the line is bad.
abbrev pub answer_of_command : List ℕ → List (List ℕ) → Option (List ℕ)
answer_of_command name words =
    if bytes_eq name (codes "filter") then filter_words words
    else if bytes_eq name (codes "take") then take_words words
    else if bytes_eq name (codes "get") then get_words words
    else if bytes_eq name (codes "pext") then pext_words words
    else if bytes_eq name (codes "choose") then choose_words words
    else if bytes_eq name (codes "flatten") then flatten_words words
    else if bytes_eq name (codes "dict") then dict_words words
    else if bytes_eq name (codes "fixed") then fixed_words words
    else if bytes_eq name (codes "table") then table_words words
    else None

-- The output for the words of a line, the first of which is the command.
abbrev pub answer_of_words : List (List ℕ) → Option (List ℕ)
answer_of_words [] = None
answer_of_words (name ∷ words) = answer_of_command name words

-- The output for a line of words separated by single spaces; none if the line is bad.
unfoldable pub answer_of_line : List ℕ → Option (List ℕ)
answer_of_line line =
    if nat_le (length line) longest_line && is_utf8 line
    then answer_of_words (slice_split (λ b. b == 32) line)
    else None
