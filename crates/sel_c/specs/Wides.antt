-- 128-bit integers in two words.
use Rattle.std.specs.Prelude.{ℕ, ℤ, ◌+◌, ◌*◌, pos}
use Rattle.std.specs.Int.{w128, cast_signed}
use Rattle.sel_c.specs.declared.calls.wides.Wide.{Wide}

-- The unsigned integer with these low and high words (Arrow columnar format: little-endian
-- numbers).
abbrev pub joined : Wide → ℕ
joined wide = wide.low + 18446744073709551616 * wide.high

-- The words as an unsigned integer, and as one in two's complement (Arrow columnar format:
-- fixed-size primitive layout).
abbrev pub unsigned_wide : Wide → ℤ
unsigned_wide wide = pos (joined wide)

abbrev pub signed_wide : Wide → ℤ
signed_wide wide = cast_signed w128 (joined wide)
