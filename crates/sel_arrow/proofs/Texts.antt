-- Rows that are strings.
use Rattle.std.proofs.Common.{◌≡◌, ℕ, ◌<◌, true, false, List, length, take, drop, ◌∙◌, ap, get_or, IsTrue}
use Rattle.std.specs.Str.{IsUtf8, is_utf8}
use Rattle.std.proofs.lemmas.Str.{IsUtf8-from_is_utf8, is_utf8-from_IsUtf8}
use Rattle.sel_arrow.specs.Texts.{all_text, is_text}
use Rattle.sel_arrow.specs.Value.{Value, Null, Bytes}
use Rattle.sel_arrow.proofs.{ViewRows.length-view_rows, Lists.false_unless, Lists.all_at, Lists.all_of_them, Lists.all_part}

-- ---- whether bytes are UTF-8

pub utf8_passes : (bytes : List ℕ) → IsUtf8 bytes → is_utf8 bytes ≡ true
utf8_passes bytes valid = is_utf8-from_IsUtf8 bytes valid

pub other_fails : (bytes : List ℕ) → ¬ (IsUtf8 bytes) → is_utf8 bytes ≡ false
other_fails bytes broken = false_unless (is_utf8 bytes) (λ e. broken (IsUtf8-from_is_utf8 bytes e))

pub ruleset utf8_tests = (utf8_passes, other_fails)

-- ---- whether rows are UTF-8

pub part_text : (rows : List Value) (off len : ℕ) → IsTrue (all_text rows) → IsTrue (all_text (take len (drop off rows)))
part_text rows off len texts = all_part is_text rows off len texts

-- A row of bytes in a string column is UTF-8.
pub utf8_row : (rows : List Value) (i : ℕ) (bytes : List ℕ) → Bytes bytes ≡ get_or rows i Null → IsTrue (all_text rows) → i < length rows → IsUtf8 bytes
utf8_row rows i bytes is texts h = IsUtf8-from_is_utf8 bytes (ap is_text is ∙ all_at is_text rows i Null texts h)

pub ruleset text_columns = (part_text, utf8_row)

pub all_texts : (rows : List Value) (n : ℕ) → IsTrue (all_text (take n rows)) → n ≡ length rows → all_text rows ≡ true
all_texts rows n texts h = all_of_them is_text rows n texts h

pub ruleset whole_texts = (all_texts, length-view_rows)
