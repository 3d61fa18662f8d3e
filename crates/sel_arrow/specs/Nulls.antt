-- The validity of given rows.
use Rattle.std.specs.Prelude.{◌≡◌, true, false, List, length, replicate, Option, Some, None}
use Rattle.sel_bits.specs.Bits.{Bits}
use Rattle.sel_arrow.specs.Value.{Value, validities}
use Rattle.sel_arrow.specs.Shape.{Shape, of_null}

-- The validity of a column of this type with these rows: bit i is true exactly if row i is not
-- null; without a validity, no row is null. A null column has no validity, and all its rows are
-- null. (Arrow columnar format: validity bitmaps, null layout.).
abbrev pub IsValidityOf : Shape → Option Bits → List Value → Type 0
IsValidityOf of_null validity vs = (validity ≡ None) × (validities vs ≡ replicate (length vs) false)
IsValidityOf shape None vs = validities vs ≡ replicate (length vs) true
IsValidityOf shape (Some validity) vs = validities vs ≡ validity.bits
