-- The bits of a word under a mask, packed.
use Rattle.std.specs.Prelude.{ℕ}
use Rattle.sel_bits.specs.Words.{bits, word_of}
use Rattle.sel_filter.specs.Select.{select}

-- The bits of the 64-bit word v where m has a set bit, packed from the lowest and followed by zeros
-- (parallel bit extract).
unfoldable pub compress : ℕ → ℕ → ℕ
compress v m = word_of (select (bits 64 v) (bits 64 m))
