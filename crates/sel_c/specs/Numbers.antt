-- What the functions of one kind state that differ by their type of numbers alone.
use Rattle.std.specs.Prelude.{◌≡◌, ◌≢◌, ◌≤◌, ℕ, ℤ, Bool, List, [], ◌∷◌, length, None, Some}
use Rattle.sel_arrow.specs.Masked.{number_rows}
use Rattle.sel_arrow.specs.Rows.{rows, type_of}
use Rattle.sel_arrow.specs.Shape.{Shape}
use Rattle.sel_ffi.specs.Held.{Held}
use Rattle.sel_ffi.specs.Inputs.{flat_rules, validity_in}
use Rattle.sel_ffi.specs.Status.{ok, out_of_memory, IsOneOf, Makes, ReportsOnly}
use Rattle.sel_ffi.specs.Buffers.{IsPartOf}
use Rattle.sel_ffi.specs.HeldBuffer as lent
use Rattle.sel_ffi.specs.declared.shared_buffer.SharedBuffer.{SharedBuffer}

-- A column of numbers is made: it has these values under a validity and this type, and the status
-- is that of the first broken rule.
pub record MakesNumbers {T : Type 0} (code : ℕ) (before after : Held) (shape : Shape)
    (number : T → ℤ) (values : List T) (bits : List ℕ) (has_bits : Bool) : Type 0 where
  pub rows : Makes code before after (λ made. rows made.column ≡
      number_rows number values (validity_in bits has_bits (length values)))
  pub dtype : Makes code before after (λ made. type_of made.column ≡ shape)
  pub status : ReportsOnly code (flat_rules (length values) bits has_bits)

-- Memory of these values becomes a buffer of a handle; on error it and the handle are unchanged,
-- and the only error is out of memory.
pub record Lends {T : Type 0} (code : ℕ) (shared : List T → SharedBuffer) (old new : List T)
    (before after : lent.Held) : Type 0 where
  pub buffer : code ≡ ok → after ≡ Some (shared old)
  pub kept : code ≢ ok → new ≡ old
  pub unchanged : code ≢ ok → after ≡ before
  pub status : code ≤ out_of_memory

-- The status where other owners use the buffer, or it is not over lent memory of the type.
abbrev pub in_use : ℕ
in_use = 127

-- The memory of a handle's buffer is given back, and the handle is empty; on error it is unchanged,
-- and the only error is that the buffer is in use.
pub record GivesBack {T : Type 0} (code : ℕ) (shared : List T → SharedBuffer)
    (before after : lent.Held) (memory : List T) : Type 0 where
  pub given : code ≡ ok → IsPartOf shared before memory
  pub taken : code ≡ ok → after ≡ None
  pub unchanged : code ≢ ok → after ≡ before
  pub status : IsOneOf code (ok ∷ in_use ∷ [])
