-- Parsed strings as views.
use Rattle.std.specs.Prelude.{List, [], ◌∷◌, map}
use Rattle.sel_arrow.specs.Masked.{hidden}
use Rattle.sel_arrow.specs.Value.{Value}
use Rattle.sel_arrow.specs.Views.{view_value}
use Rattle.sel_lines.specs.declared.texts.Texts.{Texts}

-- The rows of views into one data buffer; null if they are not valid.
abbrev pub rows_of_texts : Texts → List Value
rows_of_texts texts =
    hidden texts.validity.items (map (view_value (texts.bytes.items ∷ [])) texts.views.items)
