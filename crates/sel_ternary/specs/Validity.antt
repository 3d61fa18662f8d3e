-- The validity of an if-then-else.
use Rattle.std.specs.Prelude.{Bool, List, length, Option, Some, None}
use Rattle.sel_bits.specs.Bits.{Bits}
use Rattle.sel_bits.specs.Validity.{bits_for}
use Rattle.sel_ternary.specs.Choose.{choose}

-- The validity of each row: that of the true or the false value. Values without a validity are
-- valid; none if neither has a validity (Arrow columnar format: validity bitmaps).
abbrev pub chosen_validity : List Bool → Option Bits → Option Bits → Option (List Bool)
chosen_validity ms None None = None
chosen_validity ms None (Some f) = Some (choose ms (bits_for (length ms) None) f.bits)
chosen_validity ms (Some t) if_false = Some (choose ms t.bits (bits_for (length ms) if_false))
