-- Text that begins with the text of a row.
use Rattle.std.specs.Prelude.{◌≡◌, ℕ, true, List, ◌++◌}
use Rattle.sel_arrow.specs.Shape.{Shape}
use Rattle.sel_arrow.specs.Value.{Value}
use Rattle.sel_text.specs.Digits.{NoDigit}
use Rattle.sel_text.specs.Fits.{fits}
use Rattle.sel_text.specs.Texts.{value_text}

-- The text is the row text of a value that fits the type, followed by more text, which does not
-- begin with a digit, so that a number ends before it.
pub record BeginsWith (shape : Shape) (value : Value) (text more : List ℕ) : Type 0 where
  pub fit : fits shape value ≡ true
  pub end : NoDigit more
  pub whole : text ≡ value_text shape value ++ more
