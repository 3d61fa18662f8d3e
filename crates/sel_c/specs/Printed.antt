-- The texts of a handle's column, and the bytes of them that are copied.
use Rattle.std.specs.Prelude.{◌≡◌, ◌≢◌, ℕ, List, [], ◌∷◌, length, take, drop, ◌++◌}
use Rattle.sel_ffi.specs.Held.{Held}
use Rattle.sel_ffi.specs.Status.{ok, no_column, held_rows, held_type, HasColumn, ReturnsFirst}
use Rattle.sel_text.specs.Texts.{text_of}
use Rattle.sel_text.specs.Types.{type_text}

-- The row text, as in `[1,null,-3]`.
abbrev pub held_text : Held → List ℕ
held_text held = text_of (held_type held) (held_rows held)

-- The text of the type, as in `list<i8>`.
abbrev pub held_type_text : Held → List ℕ
held_type_text held = type_text (held_type held)

-- A buffer after the text is copied into it: as much of the text as fits, then the old bytes.
abbrev pub filled : List ℕ → List ℕ → List ℕ
filled text room = take (length room) text ++ drop (length text) room

-- A text of a handle's column is copied, as much as fits, and its length is written. On error
-- nothing is written.
pub record Prints (code : ℕ) (held : Held) (text before after : List ℕ) (len_before len_after : ℕ)
    : Type 0 where
  pub copied : code ≡ ok → after ≡ filled text before
  pub counted : code ≡ ok → len_after ≡ length text
  pub unchanged : code ≢ ok → (after ≡ before) × (len_after ≡ len_before)
  pub checks : ReturnsFirst code ((no_column, HasColumn held) ∷ []) (code ≡ ok)
