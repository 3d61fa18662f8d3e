-- Offsets, and bits behind them in the same block of memory.
use Rattle.std.specs.Prelude.{Bool, ℤ, List}

-- The offsets, and the bits.
pub record OffsetsAndBits : Type 0 where
  pub offsets : List ℤ
  pub bits : List Bool
